-- `push` meets its contract.
use Rattle.std.proofs.Common.{arith}
use Rattle.text_lines.specs.LineLaws.{pushed_full, pushed_more}
use Rattle.text_lines.proofs.push.Goals as goal

pub returns-then-n-line : goal.returns-then-n-line
returns-then-n-line c = pushed_more _ _ _ (omega arith)

pub returns-else-n-line : goal.returns-else-n-line
returns-else-n-line c = pushed_full _ _ _ c.requires (omega arith)
