-- `row_session::session_after` meets its contract.
use Rattle.row_list.proofs.Listings.{session_stays, session_freed}
use Rattle.row_session.proofs.session_after.Goals as goal

pub returns-in-Keep : goal.returns-in-Keep
returns-in-Keep c = session_stays _ _ c.in-Keep.is

pub returns-in-Remove : goal.returns-in-Remove
returns-in-Remove c = session_freed _ _ _ _ c.in-Remove.is c.no_session.ensures
