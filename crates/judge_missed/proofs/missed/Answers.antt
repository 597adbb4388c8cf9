-- `missed` meets its contract.
use mathlib.Core.Path.{refl, ◌∙◌, ap}
use Rattle.finder.specs.Answers.{status_of}
use Rattle.judge_missed.specs.Missed.{unless_refused}
use Rattle.judge_missed.proofs.Steps.{missed_by}
use Rattle.judge_missed.proofs.missed.Goals as goal

pub returns-in-Refused : goal.returns-in-Refused
returns-in-Refused c = missed_by _ _ c.in-Refused.is c.args.peer _ refl

pub returns-in-Unreadable : goal.returns-in-Unreadable
returns-in-Unreadable c =
    let peer = c.args.peer in
    missed_by _ _ c.in-Unreadable.is peer _ (c.unless_refused.ensures ∙ ap (unless_refused (status_of peer)) c.unreadable.ensures)

pub returns-in-Nothing : goal.returns-in-Nothing
returns-in-Nothing c = missed_by _ _ c.in-Nothing.is c.args.peer _ c.missed_peer.ensures

pub returns-in-Found : goal.returns-in-Found
returns-in-Found c = missed_by _ _ c.in-Found.is c.args.peer _ c.missed_peer-in-Found.ensures
