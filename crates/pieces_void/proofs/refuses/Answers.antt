-- `pieces_void::refuses` meets its contract.
use mathlib.Core.Bool.{true, false}
use Rattle.pieces_void.specs.Settling.{refused_as}
use Rattle.pieces_void.proofs.refuses.Goals as goal

pub returns-then-two : goal.returns-then-two
returns-then-two c = refused_as _ true _ _ _ _ c.is_unreadable.ensures c.progress2-progress.ensures c.if-two.true

pub returns : goal.returns
returns c = refused_as _ false _ _ _ _ c.is_unreadable-2.ensures c.progress1-progress.ensures c.if-two.false
