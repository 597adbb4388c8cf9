-- A door's history in a list of calls: a call of the list, and what has held of the door since.
use Rattle.std.specs.Prelude.{◌≡◌, ℕ, ◌<◌}
use Rattle.std.proofs.Common.{◌∙◌}
use mathlib.Core.List.{List, [], ◌∷◌, ◌++◌}
use Rattle.door.specs.Door.{Seen}
use Rattle.door.specs.Calls.{Ask}
use Rattle.door.specs.Calls as door
use Rattle.door.specs.declared.Door.{Door}
use Rattle.unit.specs.Unit.{empty_unit, view}
use Rattle.unit.specs.Run.{Call, on, Told, step, after}
use Rattle.unit.specs.declared.LinkUnit.{LinkUnit}

-- after the calls cs from the empty unit: what door d sees, the door's own data, and what a call of d's is told
abbrev pub seen_after : ℕ → List Call → Seen
seen_after d cs = view (after empty_unit cs) d

abbrev pub door_after : ℕ → List Call → Door
door_after d cs = (seen_after d cs).door

abbrev pub told_after : ℕ → List Call → Ask → Told
told_after d cs a = (step (after empty_unit cs) (on d a)).told

-- the unit, and door d's own data, after one more call, of d's
abbrev pub unit_then : ℕ → List Call → Ask → LinkUnit
unit_then d cs a = (step (after empty_unit cs) (on d a)).unit

abbrev pub door_then : ℕ → List Call → Ask → Door
door_then d cs a = (view (unit_then d cs a) d).door

-- P holds of door d's own data now and after each call of a list
unfoldable pub Throughout : (Door → Type 0) → ℕ → LinkUnit → List Call → Type 0
Throughout P d u [] = P (view u d).door
Throughout P d u (c ∷ cs) = P (view u d).door × Throughout P d (step u c).unit cs

-- cs has a call a of door d, made after the calls xs, and P has held of the door's own data ever since
pub record Since (P : Door → Type 0) (d : ℕ) (cs xs : List Call) (a : Ask) : Type 0 where
  pub later : List Call
  pub are : cs ≡ xs ++ on d a ∷ later
  pub always : Throughout P d (unit_then d xs a) later
