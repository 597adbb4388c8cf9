-- `option_parts::put_global` meets its contract.
use native.Mathlib.Omega.{arith}
use Rattle.option_layout.specs.PartLaws.{puts_no_global, puts_global}
use Rattle.option_parts.proofs.put_global.Goals as goal

pub returns-then-g-eq0 : goal.returns-then-g-eq0
returns-then-g-eq0 c = puts_no_global _ _ (omega arith)

pub returns : goal.returns
returns c = puts_global _ _ _ (λ e. omega arith) c.put.ensures
