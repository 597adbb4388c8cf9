-- The step that opens a door, or leaves it as it is.
use Rattle.std.specs.Prelude.{Bool, cond}
use Rattle.door.specs.Receive.{open_door}
use Rattle.door.specs.declared.Door.{Door}

unfoldable pub open_if : Bool → Door → Door
open_if opens d = cond opens (open_door d) d
