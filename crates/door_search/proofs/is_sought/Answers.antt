-- `door_search::is_sought` meets its contract.
use Rattle.door_search.proofs.Asked.{by_list, by_half, by_name}
use Rattle.door_search.proofs.is_sought.Goals as goal

pub returns-in-Listed : goal.returns-in-Listed
returns-in-Listed c = by_list _ _ _ _ c.in-Listed.is c.is_listed.ensures

pub returns-in-Expecting : goal.returns-in-Expecting
returns-in-Expecting c = by_half _ _ _ _ _ _ c.in-Expecting.is c.is_expecting.ensures

pub returns-in-Named : goal.returns-in-Named
returns-in-Named c = by_name _ _ _ _ _ c.in-Named.is c.is_session.ensures
