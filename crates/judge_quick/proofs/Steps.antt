-- The cases of the byte before a place, each from facts about numbers. Assumes nothing.
use Prim.Native.Nat.{ℕ, ◌-◌, ◌≤◌, ◌<◌}
use mathlib.Core.Path.{◌≡◌}
use mathlib.Core.List.{List}
use native.Mathlib.Omega.{arith}
use borrow.Author.Tests.{eq-eqb, ne_eqb}
use lib.ListN.{length, get_or, get_or-eq_default}
use Rattle.judge_quick.specs.Quick.{byte_before}

module _ (s : List ℕ) (at : ℕ) where
  pub before_none : at ≡ 0 → 0 ≡ byte_before s at
  unfolding byte_before
  before_none e = simp (eq-eqb _ _ e)

  pub before_past : (at ≡ 0 → ⊥) → length s < at → 0 ≡ byte_before s at
  unfolding byte_before
  before_past z h =
      let past : length s ≤ at - 1 = omega arith in
      let d = get_or-eq_default s 0 {n = at - 1} past in
      simp (ne_eqb _ _ z, d)

  pub before_there : (at ≡ 0 → ⊥) → get_or s (at - 1) 0 ≡ byte_before s at
  unfolding byte_before
  before_there z = simp (ne_eqb _ _ z)
