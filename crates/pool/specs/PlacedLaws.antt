-- Laws of a door or a row in its place: how the code's ways lead to it, and that no other door is touched. Assumes nothing.
use Rattle.std.specs.Prelude.{◌≤◌, ◌<◌, ◌≡◌}
use Rattle.std.proofs.Common.{◌∙◌}
use Rattle.door.specs.declared.Door.{Door}
use Rattle.unit.specs.declared.Position.{Position}

abbrev pub with_door : Position → Door → Position
with_door x l = record { door = l; count = x.count; rows = x.rows }
