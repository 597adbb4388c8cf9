-- `find_status` meets its contract: its word is the status of what `locate` answers.
use Rattle.eno.specs.Area.{status}
use Rattle.finder.proofs.Found.{told}
use Rattle.finder.proofs.find_status.Goals as goal

pub returns-in-Found : goal.returns-in-Found
unfolding status
returns-in-Found c = told _ _ _ c.locate-outcome.ensures _ c.in-Found.is

pub returns-in-Missing : goal.returns-in-Missing
unfolding status
returns-in-Missing c = told _ _ _ c.locate-outcome.ensures _ c.in-Missing.is

pub returns-in-Unreadable : goal.returns-in-Unreadable
unfolding status
returns-in-Unreadable c = told _ _ _ c.locate-outcome.ensures _ c.in-Unreadable.is

pub returns-in-Refused : goal.returns-in-Refused
unfolding status
returns-in-Refused c = told _ _ _ c.locate-outcome.ensures _ c.in-Refused.is
