-- What is done with a segment, in the terms of the definitions.
use Rattle.std.specs.Prelude.{cond, Option, Some, None}
use Rattle.door.specs.Door.{crossed, answering, opened}
use Rattle.door.specs.Receive as receive
use Rattle.turns.specs.declared.Turn.{Turn}
use Rattle.turns.specs.declared.Turn.TheVariants as says

abbrev pub turn_as : Option Turn → receive.Turn
turn_as (Some (says.Judging opens)) = receive.judging (cond opens opened crossed)
turn_as (Some (says.Comparing opens)) = receive.comparing (cond opens opened answering)
turn_as (Some says.Presence) = receive.presence
turn_as (Some says.Unchanged) = receive.unchanged
turn_as None = receive.out_of_turn
