-- `generation_receive::receive` meets its contract.
use native.Mathlib.Omega.{arith}
use borrow.Author.Tests.{not-true, not-false}
use Rattle.generation_receive.proofs.Ways.{receive_plain, receive_past, receive_follows, receive_behind}
use Rattle.generation_receive.proofs.receive.Goals as goal

pub returns-then-not-rekey : goal.returns-then-not-rekey
returns-then-not-rekey c = receive_plain _ _ (not-true _ c.if-not-rekey.true-raw)

pub returns-then-g-ge65535 : goal.returns-then-g-ge65535
returns-then-g-ge65535 c = receive_past _ _ (not-false _ c.if-not-rekey.false-raw) (omega arith)

pub returns-then-g-remote : goal.returns-then-g-remote
returns-then-g-remote c = receive_follows c.args.g _ (not-false _ c.if-not-rekey.false-raw) (omega arith) _ (omega arith) (omega arith)

pub returns-else-g-remote : goal.returns-else-g-remote
returns-else-g-remote c = receive_behind c.args.g _ (not-false _ c.if-not-rekey.false-raw) (omega arith) _ (omega arith) (omega arith)
