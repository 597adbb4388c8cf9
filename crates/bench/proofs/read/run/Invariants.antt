-- `read::run` is safe and ends: the measure is the number of bytes to put.
use Rattle.std.proofs.Common.{◌-◌}
use Rattle.bench.proofs.read.run.Given as goal

abbrev pub decreases-loop-x : goal.decreases-loop-x
decreases-loop-x l = l.to - l.x
