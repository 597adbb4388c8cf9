-- `after_presence` meets its contract.
use Rattle.segments.proofs.Reasons.{presence_found, presence_plain}
use Rattle.segments.proofs.after_presence.Goals as goal

pub returns-in-None : goal.returns-in-None
returns-in-None c = presence_found _ _ _ c.absence.ensures c.in-None.is _ c.open_door.ensures

pub returns-in-Some : goal.returns-in-Some
returns-in-Some c = presence_plain _ _ _ c.absence.ensures _ c.in-Some.is _ c.plain_door.ensures
