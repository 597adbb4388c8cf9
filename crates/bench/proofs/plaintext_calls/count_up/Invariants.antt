-- `plaintext_calls::count_up` is safe and ends: the measure is the number of bytes left.
use Rattle.std.proofs.Common.{◌-◌, length}
use Rattle.bench.proofs.plaintext_calls.count_up.Given as goal

abbrev pub decreases-loop-i : goal.decreases-loop-i
decreases-loop-i l = length l.initial.s - l.i
