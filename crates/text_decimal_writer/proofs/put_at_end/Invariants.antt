-- `put_at_end`: the digits behind the place stand in the buffer. The measure is what is left of the number.
use Rattle.text_decimal_writer.proofs.FromTheEnd.{Behind}
use Rattle.text_decimal_writer.proofs.put_at_end.Given as goal

abbrev pub invariant-loop-left : goal.invariant-loop-left
invariant-loop-left l = Behind l.n l.at l.left l.digits

abbrev pub decreases-loop-left : goal.decreases-loop-left
decreases-loop-left l = l.left
