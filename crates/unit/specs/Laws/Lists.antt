-- Lists: one element cut out, and numbers that stand in a list or do not.
use Rattle.std.specs.Prelude.{◌≡◌, ◌≢◌, ◌⊎◌}
use Rattle.std.proofs.Common.{◌∙◌}
use mathlib.Core.List.{List, [], ◌∷◌, ◌++◌}
use Prim.Native.Nat.{ℕ, ◌+◌, ◌-◌, ◌≤◌, ◌<◌}

-- k is one of these
abbrev pub In : ℕ → List ℕ → Type 0
In k [] = ⊥
In k (i ∷ is) = (k ≡ i) ⊎ In k is

-- k is none of these
abbrev pub NotIn : ℕ → List ℕ → Type 0
NotIn k [] = Unit {0}
NotIn k (i ∷ is) = (k ≢ i) × NotIn k is
