-- Demand 1 for the unit: a refusal changes no record, no door and no byte of a lent buffer, and is given exactly when document 01 says.
use Rattle.std.specs.Prelude.{◌≡◌, ◌↔◌, Bool, true, List, [], ℕ, ◌≤◌, ◌<◌}
use Rattle.std.proofs.Common.{◌∙◌}
use Rattle.refusals.specs.Rows.{Least}
use Rattle.door.specs.Numbered.{lent_of, applies}
use Rattle.door.specs.Calls.{Ask}
use Rattle.unit.specs.Numbers.{doors_n}
use Rattle.unit.specs.Unit.{view}
use Rattle.unit.specs.Run.{Call, on, erase, step}
use Rattle.unit.specs.declared.LinkUnit.{LinkUnit}

-- the lent buffer of a call
abbrev pub lent : Call → List ℕ
lent (on d a) = lent_of a
lent erase = []

-- a refused call leaves the unit as found, every field, for every unit value
pub record LeftAsFound (u : LinkUnit) (c : Call) : Type 0 where
  pub unit : (step u c).unit ≡ u
  pub buffer : (step u c).told.buffer ≡ lent c

-- number 1 applies to a door that is not ours, the other numbers as a door's do; `free` says whether a row of the pool is free
pub data LeastWith (free : Bool) (u : LinkUnit) (d : ℕ) (a : Ask) : ℕ → Type 0 where
  no_door_lem : doors_n ≤ d → LeastWith free u d a 1
  of_door : {n : ℕ} → d < doors_n → Least (applies free (view u d) a) n → LeastWith free u d a n

-- at every unit that calls reach from the empty one the numbers apply as if a row were free: one is, whenever the door holds fewer than the most
abbrev pub LeastOf : LinkUnit → ℕ → Ask → ℕ → Type 0
LeastOf u d a n = LeastWith true u d a n
