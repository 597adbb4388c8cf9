-- `row_list_after::list_after` meets its contract.
use Rattle.row_list.proofs.Listings.{list_kept, list_longer, list_shorter}
use Rattle.row_list_after.proofs.list_after.Goals as goal

pub returns-in-Keep : goal.returns-in-Keep
returns-in-Keep c = (list_kept _ _ _ c.in-Keep.is, c.count_of-n.ensures.1)

pub returns-in-Add : goal.returns-in-Add
returns-in-Add c = (list_longer _ _ _ _ _ c.count_of-n.ensures.0 c.in-Add.is c.with_record.ensures, c.count_of-n.ensures.1)

pub returns-in-Remove : goal.returns-in-Remove
returns-in-Remove c = (list_shorter _ _ _ _ _ c.count_of-n.ensures.0 _ c.in-Remove.is c.without_record.ensures, c.count_of-n.ensures.1)
