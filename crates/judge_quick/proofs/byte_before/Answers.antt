-- `byte_before` meets its contract.
use native.Mathlib.Omega.{arith}
use Rattle.judge_quick.proofs.Steps.{before_none, before_past, before_there}
use Rattle.judge_quick.proofs.byte_before.Goals as goal

pub returns-then-at-eq0 : goal.returns-then-at-eq0
returns-then-at-eq0 c = before_none _ _ (omega arith)

pub returns-then-s-at : goal.returns-then-s-at
returns-then-s-at c = before_past _ _ (omega arith) (omega arith)

pub returns : goal.returns
returns c = before_there _ _ (omega arith)
