-- The TEPs of an option: each stands behind its byte, and their data starts grow along the option.
use Rattle.std.specs.Prelude.{ℕ, ◌+◌, ◌-◌, ◌≤◌, ◌<◌, ◌≡◌, List, [], ◌∷◌, ◌⊎◌, get_or}
use Rattle.std.proofs.Common.{◌∙◌}
use Rattle.eno.specs.Suboption.{Sent}

-- x is one of a list
abbrev pub In : Sent → List Sent → Type 0
In x [] = ⊥
In x (y ∷ l) = (x ≡ y) ⊎ In x l

-- data starts grow, from behind i on
abbrev pub Ordered : ℕ → List Sent → Type 0
Ordered i [] = Unit {0}
Ordered i (x ∷ l) = (i < x.start) × Ordered x.start l

-- its byte stands before its data
pub record Stood (o : List ℕ) (x : Sent) : Type 0 where
  pub positive : x.start ≡ 0 → ⊥
  pub byte_there : get_or o (x.start - 1) 0 ≡ x.byte
