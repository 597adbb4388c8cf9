-- The pool: each row that a door lists is its own, so that no effect of one door touches a row of another; and counting, for a free row.
use Rattle.std.specs.Prelude.{◌≡◌, ◌≢◌, List, [], ◌∷◌, ◌++◌, ℕ, zero, suc, ◌+◌, ◌*◌, ◌≤◌, ◌<◌, length, get_or}
use Rattle.std.proofs.Common.{◌∙◌}
use Rattle.unit.specs.Unit.{count_of}
use Rattle.unit.specs.Laws.Lists.{NotIn}
use Rattle.unit.specs.declared.Position.{Position}

-- door d's list: each row is in the pool and owned by d, and none stands twice
abbrev pub Own : List ℕ → ℕ → List ℕ → Type 0
Own owners d [] = Unit {0}
Own owners d (i ∷ is) = (i < length owners) × (get_or owners i 0 ≡ suc d) × NotIn i is × Own owners d is

-- rows in use, and rows that doors list
unfoldable pub bit : ℕ → ℕ
bit zero = 0
bit (suc n) = 1

unfoldable pub in_use : List ℕ → ℕ
in_use [] = 0
in_use (o ∷ owners) = bit o + in_use owners

unfoldable pub in_hold : List Position → ℕ
in_hold [] = 0
in_hold (x ∷ doors) = count_of x + in_hold doors
