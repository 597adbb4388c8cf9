-- `door_counts::held_count` meets its contract.
use Rattle.door.specs.Numbers.{each_n}
use Rattle.door_counts.proofs.Counting.{counts}
use Rattle.door_counts.proofs.held_count.Goals as goal

pub returns : goal.returns
unfolding each_n
returns c = counts _ c.well_formed.0.1.1.1.1.0.1.0.1 _ c.listed_count.ensures
