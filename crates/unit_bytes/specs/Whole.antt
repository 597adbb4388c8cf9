-- The whole unit in arrays: the empty unit, a door or a row read, and a door or a row put in its place. Assumes nothing, of the arrays' lengths neither.
use Rattle.std.specs.Prelude.{ℕ, ◌/◌, ◌%◌, ◌<◌, ◌≡◌}
use Rattle.std.proofs.Common.{◌∙◌}
use mathlib.Core.List.{List, ◌∷◌}
use Rattle.eno.specs.declared.SessionRecord.{SessionRecord}
use Rattle.unit.specs.declared.Position.{Position}
use Rattle.unit.specs.declared.LinkUnit.{LinkUnit}

abbrev pub unit_of : List ℕ → List SessionRecord → List Position → LinkUnit
unit_of marks rows doors = record { marks = marks; rows = rows; doors = doors }
