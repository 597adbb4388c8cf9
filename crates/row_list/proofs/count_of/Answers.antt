-- `row_list::count_of` meets its contract.
use Rattle.door.specs.Numbers.{each_n}
use Rattle.row_list.proofs.count_of.Goals as goal

pub returns : goal.returns
unfolding each_n
returns c = (c.listed_count.ensures, c.well_formed.0.1.1.1.1.0.1.0.1)
