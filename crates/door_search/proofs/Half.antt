-- Laws of the half that a record expects.
use Prim.Native.Nat.{ℕ, ◌+◌, ◌-◌, ◌≤◌}
use mathlib.Core.Path.{◌≡◌, refl, sym, ◌∙◌, ap, ap₂}
use mathlib.Core.List.{List, [], ◌∷◌}
use mathlib.Core.Bool.{Bool, false, ◌&&◌}
use native.Mathlib.Omega.{arith}
use native.Mathlib.Decide.{ℕ_discrete}
use borrow.Author.Tests.{eq-eqb, ne_eqb}
use lib.Dec.{eqb}
use lib.ListN.{length, take, drop, length-take, length-drop}
use Rattle.wire.specs.Bytes.{part, same_bytes, stands_at}
use Rattle.eno.specs.Session.{expected_half}
use Rattle.eno.specs.declared.SessionRecord.{SessionRecord}
use Rattle.door_search.specs.Search.{expects}

-- the same bytes, either way round
eqb_swap : (m n : ℕ) → eqb m n ≡ eqb n m
eqb_swap m n = elim (ℕ_discrete m n) [
  | yes e ↦ eq-eqb _ _ e ∙ sym (eq-eqb _ _ (sym e))
  | no h ↦ ne_eqb _ _ h ∙ sym (ne_eqb _ _ (λ e. h (sym e)))
]

same_swap : (a b : List ℕ) → same_bytes a b ≡ same_bytes b a
unfolding same_bytes
same_swap [] [] = refl
same_swap [] (y ∷ b) = refl
same_swap (x ∷ a) [] = refl
same_swap (x ∷ a) (y ∷ b) = ap₂ (λ p q. p && q) (eqb_swap x y) (same_swap a b)

-- a half of an identifier in an option
half_stands : (o : List ℕ) (at : ℕ) (identifier : List ℕ) (from to : ℕ) (m : List ℕ) → from ≤ 9 → length identifier ≡ 18 → to ≡ from + 9
    → m ≡ take (to - from) (drop from identifier) → stands_at o at m ≡ same_bytes (part from 9 identifier) (part at 9 o)
unfolding stands_at part
half_stands o at identifier from to m h w q p =
    let n : to - from ≡ 9 = omega arith in
    let p' : m ≡ take 9 (drop from identifier) = p ∙ ap (λ k. take k (drop from identifier)) n in
    let l : length m ≡ 9 = ap length p' ∙ simp (length-take, length-drop) (omega arith) in
    ap (λ k. same_bytes (take k (drop at o)) m) l ∙ (ap (same_bytes (take 9 (drop at o))) p' ∙ same_swap (take 9 (drop at o)) (take 9 (drop from identifier)))

-- whether a record expects the half that stands in an option
module _ (o : List ℕ) (t at : ℕ) (r : SessionRecord) where
  pub expects_other : (r.tep ≡ t → ⊥) → false ≡ expects o t at r
  unfolding expects
  expects_other h = simp (ne_eqb _ _ h)

  module _ (same : r.tep ≡ t) (eighteen : length r.identifier ≡ 18) (m : List ℕ) (b : Bool) (stands : b ≡ stands_at o at m) where
    pub expects_second : r.role ≡ 0 → m ≡ take (18 - 9) (drop 9 r.identifier) → b ≡ expects o t at r
    unfolding expects expected_half
    expects_second z e = stands ∙ (half_stands o at r.identifier 9 18 m (omega arith) eighteen refl e ∙ simp (eq-eqb _ _ same, eq-eqb _ _ z))

    pub expects_first : (r.role ≡ 0 → ⊥) → m ≡ take (9 - 0) (drop 0 r.identifier) → b ≡ expects o t at r
    unfolding expects expected_half
    expects_first z e = stands ∙ (half_stands o at r.identifier 0 9 m (omega arith) eighteen refl e ∙ simp (eq-eqb _ _ same, ne_eqb _ _ z))
