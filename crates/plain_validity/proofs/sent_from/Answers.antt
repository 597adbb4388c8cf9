-- `sent_from` meets its contract.
use native.Mathlib.Omega.{arith}
use Rattle.plain_validity.proofs.Halves.{from_first, from_second}
use Rattle.plain_validity.proofs.sent_from.Goals as goal

pub returns-then-role-eq0 : goal.returns-then-role-eq0
returns-then-role-eq0 c = from_first _ (omega arith)

pub returns-else-role-eq0 : goal.returns-else-role-eq0
returns-else-role-eq0 c = from_second _ (omega arith)
