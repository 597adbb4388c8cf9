-- `marks_put::with_bit` meets its contract.
use native.Mathlib.Omega.{arith}
use Rattle.unit.specs.Numbers.{word_n}
use Rattle.marks_put.proofs.Places.{marked, unmarked}
use Rattle.marks_put.proofs.with_bit.Goals as goal

pub overflow_shl-place : goal.overflow_shl-place
unfolding word_n
overflow_shl-place c = omega (arith, c.requires)

pub returns-then-used : goal.returns-then-used
unfolding word_n
returns-then-used c = marked _ _ (omega (arith, c.requires)) _ c.if-used.true

pub returns-else-used : goal.returns-else-used
unfolding word_n
returns-else-used c = unmarked _ _ (omega (arith, c.requires)) _ c.if-used.false (omega arith)
