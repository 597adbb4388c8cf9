-- `without_return` meets its contract: each way out is one of the definition's laws.
use Rattle.std.proofs.Common.{◌-◌, length, arith, refl}
use Rattle.std.proofs.lemmas.Grind.{common_steps}
use Rattle.text_lines.specs.LineLaws.{without_none, without_other, without_one}
use Rattle.text_lines.proofs.without_return.Goals as goal

pub returns-then-line-eq13 : goal.returns-then-line-eq13
returns-then-line-eq13 c = let s = c.args.line.now in without_one s (length s - 1) refl _ (omega arith) (omega arith)

pub returns-else-line-gt0 : goal.returns-else-line-gt0
returns-else-line-gt0 c = grind (arith, common_steps, without_none, without_other)
