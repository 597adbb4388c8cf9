-- `read::bytes` is safe and ends: the measure is the number of bytes left.
use Rattle.std.proofs.Common.{◌-◌, length}
use Rattle.bench.proofs.read.bytes.Given as goal

abbrev pub decreases-loop-i : goal.decreases-loop-i
decreases-loop-i l = length l.s - l.i
