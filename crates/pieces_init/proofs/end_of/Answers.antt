-- `pieces_init::end_of` meets its contract.
use native.Mathlib.Omega.{arith}
use Rattle.init_layout.specs.Reading.{length_at}
use Rattle.pieces_init.specs.InitWays.{end_far, end_near}
use Rattle.pieces_init.proofs.end_of.Goals as goal

pub returns-then-length-gt-MESSAGE : goal.returns-then-length-gt-MESSAGE
unfolding length_at
returns-then-length-gt-MESSAGE c = end_far _ _ c.read_u32-length.ensures (omega arith)

pub returns : goal.returns
unfolding length_at
returns c = end_near _ _ c.read_u32-length.ensures (omega arith)
