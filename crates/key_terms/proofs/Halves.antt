-- The halves of an identifier in two options, and the role that they tell. Assumes nothing.
use Prim.Native.Nat.{ℕ, ◌+◌, ◌-◌, ◌≤◌}
use mathlib.Core.Path.{◌≡◌, sym, ◌∙◌, ap}
use mathlib.Core.List.{List}
use mathlib.Core.Bool.{Bool, true, false, ◌&&◌}
use mathlib.Core.Option.{none, some}
use native.Mathlib.Omega.{arith}
use lib.ListN.{length, take, drop, length-take, length-drop}
use Rattle.wire.specs.Bytes.{part, same_bytes, stands_at}
use Rattle.key_terms.specs.Terms.{original_role}

pub half_at : (o : List ℕ) (at : ℕ) (identifier : List ℕ) (from e : ℕ) (m : List ℕ) → from ≤ 9 → length identifier ≡ 18 → e ≡ from + 9
    → m ≡ take (e - from) (drop from identifier) → stands_at o at m ≡ same_bytes (part at 9 o) (part from 9 identifier)
unfolding stands_at part
half_at o at identifier from e m h w q p =
    let n : e - from ≡ 9 = omega arith in
    let p' : m ≡ take 9 (drop from identifier) = p ∙ ap (λ k. take k (drop from identifier)) n in
    let l : length m ≡ 9 = ap length p' ∙ simp (length-take, length-drop) (omega arith) in
    ap (λ k. same_bytes (take k (drop at o)) m) l ∙ ap (same_bytes (take 9 (drop at o))) p'

module _ (identifier mine theirs : List ℕ) (a : Bool) (ea : a ≡ same_bytes (part 0 9 identifier) (part 9 9 identifier)) where
  pub role_equal : a ≡ true → none ≡ original_role identifier mine theirs
  unfolding original_role
  role_equal t = rw (sym ea ∙ t)

  module _ (f : a ≡ false) (b : Bool) (eb : b ≡ same_bytes mine (part 0 9 identifier) && same_bytes theirs (part 9 9 identifier)) where
    pub role_a : b ≡ true → some 0 ≡ original_role identifier mine theirs
    unfolding original_role
    role_a t = rw (sym ea ∙ f, sym eb ∙ t)

    module _ (g : b ≡ false) (c : Bool) (ec : c ≡ same_bytes mine (part 9 9 identifier) && same_bytes theirs (part 0 9 identifier)) where
      pub role_b : c ≡ true → some 1 ≡ original_role identifier mine theirs
      unfolding original_role
      role_b t = rw (sym ea ∙ f, sym eb ∙ g, sym ec ∙ t)

      pub role_none : c ≡ false → none ≡ original_role identifier mine theirs
      unfolding original_role
      role_none t = rw (sym ea ∙ f, sym eb ∙ g, sym ec ∙ t)
