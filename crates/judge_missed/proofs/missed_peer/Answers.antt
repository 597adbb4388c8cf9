-- `missed_peer` meets its contract.
use mathlib.Core.Path.{refl}
use Rattle.judge_missed.proofs.Steps.{missed_peer_by}
use Rattle.judge_missed.proofs.missed_peer.Goals as goal

pub returns-in-Refused : goal.returns-in-Refused
returns-in-Refused c = missed_peer_by _ _ c.in-Refused.is _ refl

pub returns-in-Unreadable : goal.returns-in-Unreadable
returns-in-Unreadable c = missed_peer_by _ _ c.in-Unreadable.is _ c.unreadable.ensures

pub returns-in-Nothing : goal.returns-in-Nothing
returns-in-Nothing c = missed_peer_by _ _ c.in-Nothing.is _ refl

pub returns-in-Found : goal.returns-in-Found
returns-in-Found c = missed_peer_by _ _ c.in-Found.is _ refl
