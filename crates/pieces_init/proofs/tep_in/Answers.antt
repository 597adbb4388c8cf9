-- `pieces_init::tep_in` meets its contract.
use native.Mathlib.Omega.{arith}
use Rattle.pieces_init.specs.InitWays.{tep_high}
use Rattle.pieces_init.proofs.tep_in.Goals as goal

pub returns-then-first-gt255 : goal.returns-then-first-gt255
returns-then-first-gt255 c = tep_high _ (omega arith)
