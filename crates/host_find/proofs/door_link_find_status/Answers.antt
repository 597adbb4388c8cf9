-- `host_find::door_link_find_status` meets its contract.
use Rattle.host_find.specs.Replies.{status_numbers}
use Rattle.host_find.proofs.Numbering.{status_numbers_lem}
use Rattle.host_find.proofs.door_link_find_status.Goals as goal

pub returns-in-Found : goal.returns-in-Found
unfolding status_numbers
returns-in-Found c = status_numbers_lem _ _ _ _ c.find_status-says.ensures c.in-Found.is c.of_kind.ensures

pub returns-in-Nothing : goal.returns-in-Nothing
unfolding status_numbers
returns-in-Nothing c = status_numbers_lem _ _ _ _ c.find_status-says.ensures c.in-Nothing.is c.of_kind-in-Nothing.ensures

pub returns-in-Unreadable : goal.returns-in-Unreadable
unfolding status_numbers
returns-in-Unreadable c = status_numbers_lem _ _ _ _ c.find_status-says.ensures c.in-Unreadable.is c.broken_numbers.ensures

pub returns-in-Refused : goal.returns-in-Refused
unfolding status_numbers
returns-in-Refused c = status_numbers_lem _ _ _ _ c.find_status-says.ensures c.in-Refused.is c.of_kind-in-Refused.ensures
