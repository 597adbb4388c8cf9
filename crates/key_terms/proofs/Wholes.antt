-- When a slice is one whole ENO option, test by test. Assumes nothing.
use Prim.Native.Nat.{ℕ, ◌≤◌, ◌<◌}
use mathlib.Core.Path.{◌≡◌, refl, sym, ◌∙◌, ap}
use mathlib.Core.List.{List, [], ◌∷◌}
use mathlib.Core.Bool.{Bool, true, false, ◌&&◌}
use native.Mathlib.Omega.{arith}
use borrow.Author.Tests.{leb-true, lt-leb, le-leb, eq-eqb, ne_eqb}
use lib.Dec.{leb, eqb}
use lib.ListN.{length, get_or}
use Rattle.eno.proofs.Laws.Asked.{and_true}
use Rattle.key_terms.specs.Terms.{is_whole}

and_false : (b : Bool) → false ≡ b && false
and_false true = refl
and_false false = refl

and_same : (b : Bool) → b ≡ b && true
and_same true = refl
and_same false = refl

pub whole_short : (o : List ℕ) → length o < 2 → false ≡ is_whole o
unfolding is_whole
whole_short [] h = refl
whole_short (x ∷ []) h = go (eqb x 0x45)
  where
    go : (b : Bool) → false ≡ b && false && true
    go true = refl
    go false = refl
whole_short (x ∷ y ∷ l) h = absurd (omega arith)

module _ (o : List ℕ) where
  pub whole_long : 40 < length o → false ≡ is_whole o
  unfolding is_whole
  whole_long h = and_false (eqb (get_or o 0 0) 0x45 && eqb (get_or o 1 0) (length o)) ∙ sym (ap (λ b. eqb (get_or o 0 0) 0x45 && eqb (get_or o 1 0) (length o) && b) (lt-leb (length o) 40 h))

  pub whole_other : (get_or o 0 0 ≡ 0x45 → ⊥) → false ≡ is_whole o
  unfolding is_whole
  whole_other h = simp (ne_eqb _ _ h)

  pub whole_is : length o ≤ 40 → get_or o 0 0 ≡ 0x45 → (n : ℕ) → n ≡ get_or o 1 0 → eqb n (length o) ≡ is_whole o
  unfolding is_whole
  whole_is h k n e =
      ap (λ m. eqb m (length o)) e
      ∙ (and_same (eqb (get_or o 1 0) (length o))
      ∙ sym (ap (λ b. b && eqb (get_or o 1 0) (length o) && leb (length o) 40) (eq-eqb (get_or o 0 0) 0x45 k) ∙ ap (λ b. eqb (get_or o 1 0) (length o) && b) (le-leb (length o) 40 h)))

  -- a whole option has at most 40 bytes
  pub whole_most : is_whole o ≡ true → length o ≤ 40
  unfolding is_whole
  whole_most e = leb-true _ _ (and_true (eqb (get_or o 0 0) 0x45 && eqb (get_or o 1 0) (length o)) (leb (length o) 40) e).1
