-- `after_comparing` meets its contract.
use Rattle.segments.proofs.Reasons.{compared_same, compared_plain}
use Rattle.segments.proofs.after_comparing.Goals as goal

pub returns-in-None : goal.returns-in-None
returns-in-None c = compared_same _ c.args.opens _ _ c.second_reason.ensures c.in-None.is _ c.open_if.ensures

pub returns-in-Some : goal.returns-in-Some
returns-in-Some c = compared_plain _ c.args.opens _ _ c.second_reason.ensures _ c.in-Some.is _ c.plain_door.ensures
