-- `pieces_init::store` meets its contract.
use mathlib.Core.Path.{sym}
use native.Mathlib.Omega.{arith}
use Rattle.pieces_init.specs.GatherLaws.{stored_low, stored_high}
use Rattle.pieces_init.proofs.store.Goals as goal

pub returns-then-n-ge-MESSAGE : goal.returns-then-n-ge-MESSAGE
returns-then-n-ge-MESSAGE c = stored_high _ _ _ (omega arith)

pub returns : goal.returns
returns c = sym (stored_low _ _ _ (omega arith))
