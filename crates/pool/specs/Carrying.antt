-- An effect carried out: what the code makes of marks, rows and the door is what the definition says.
use Rattle.std.specs.Prelude.{◌≡◌, cond, List, Option, Some, None, ◌&&◌, ◌∷◌, ◌++◌, ℕ, ◌+◌, ◌-◌, ◌≤◌, ◌<◌, set}
use Rattle.std.proofs.Common.{◌∙◌}
use Rattle.eno.specs.declared.SessionRecord.{SessionRecord}
use Rattle.door.specs.declared.Door.{Door}
use Rattle.unit.specs.Marks.{with_mark, mark_for}
use Rattle.unit.specs.declared.Position.{Position}
use Rattle.unit.specs.declared.LinkUnit.{LinkUnit}
use Rattle.unit_bytes.specs.Whole.{unit_of}
use Rattle.pool.specs.Carried.{fits}
use Rattle.pool.specs.Placed.{position_of}
use Rattle.row_list.specs.Listed.{listed_row, listed_used}
use Rattle.row_list.specs.declared.Listing.{Listing}

-- a list after a change, stored: the row taken or freed, if it is one, and the door's position, if the change fits
abbrev pub row_stored : LinkUnit → Option Listing → SessionRecord → LinkUnit
row_stored u n s = unit_of (with_mark u.marks (listed_row n) (mark_for (listed_used n))) (set u.rows (listed_row n) s) u.doors

abbrev pub door_stored : List Position → ℕ → Door → Option Listing → List Position
door_stored doors d l None = doors
door_stored doors d l (Some n) = set doors d (position_of l n.count n.numbers)

abbrev pub stored : LinkUnit → ℕ → Door → Option Listing → SessionRecord → LinkUnit
stored u d l n s = unit_of (with_mark u.marks (listed_row n) (mark_for (listed_used n))) (set u.rows (listed_row n) s) (door_stored u.doors d l n)
