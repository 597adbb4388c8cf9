-- `wire::copy` meets its contract. The loop's invariant: the first k bytes of v are copied, the rest of s is as it was.
use Rattle.std.proofs.Common.{◌≡◌, length}
use lib.Seq.{paste}
use Rattle.wire.proofs.copy.Given as goal

abbrev pub invariant-loop-k : goal.invariant-loop-k
invariant-loop-k l = (length l.s ≡ length l.initial.s) × (l.s ≡ paste l.initial.s l.at l.v l.k)
