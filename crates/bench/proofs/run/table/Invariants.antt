-- `run::table` is safe and ends: the measure is the number of bytes left.
use Rattle.std.proofs.Common.{◌-◌, length}
use Rattle.bench.proofs.run.table.Given as goal

abbrev pub decreases-loop-at : goal.decreases-loop-at
decreases-loop-at l = length l.table - l.at
