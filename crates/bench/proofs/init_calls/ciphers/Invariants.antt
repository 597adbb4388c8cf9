-- `init_calls::ciphers` is safe and ends: the measure is the number of ciphers that are left.
use Rattle.std.proofs.Common.{◌-◌}
use Rattle.bench.proofs.init_calls.ciphers.Given as goal

abbrev pub decreases-loop-i : goal.decreases-loop-i
decreases-loop-i l = 8 - l.i
