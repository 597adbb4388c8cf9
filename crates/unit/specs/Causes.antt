-- For lists of calls: every cause that a call gives is the right one of an area that was handed to a call of that door.
use Rattle.std.proofs.Math.Path.{◌≡◌}
use Rattle.std.proofs.Common.{◌∙◌}
use Rattle.std.specs.Prelude.{List, ◌∷◌, ◌++◌, ℕ, ◌<◌}
use Rattle.std.proofs.Math.Option.{some}
use Rattle.eno.specs.Causes.{CauseOf}
use Rattle.eno.specs.declared.Cause.{Cause}
use Rattle.door.specs.Outcome.{plain}
use Rattle.door.specs.Calls.{Ask}
use Rattle.door.specs.Causes.{handed}
use Rattle.unit.specs.Run.{Call}
use Rattle.unit.specs.History.{told_after, Since}
use Rattle.unit.specs.Connections.{InPlain}

-- a call of door d in cs gave the cause c, right of the area handed to that very call; the door has been in Plain ever since
pub record Caused (d : ℕ) (cs : List Call) (c : Cause) : Type 0 where
  pub before : List Call
  pub ask : Ask
  pub area : List ℕ
  pub handed_is : handed ask ≡ some area
  pub gave : (told_after d before ask).reply ≡ plain c
  pub right : CauseOf area c
  pub below : c.place < 40
  pub since : Since InPlain d cs before ask
