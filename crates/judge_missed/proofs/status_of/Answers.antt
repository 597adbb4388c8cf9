-- `status_of` meets its contract.
use mathlib.Core.Path.{◌∙◌}
use native.Mathlib.Omega.{arith}
use Rattle.judge_missed.proofs.Steps.{asked, not_asked}
use Rattle.judge_missed.proofs.status_of.Goals as goal

pub returns-then-option-eq0 : goal.returns-then-option-eq0
returns-then-option-eq0 c = c.find_status.ensures ∙ asked _ _ (omega arith)

pub returns : goal.returns
returns c = not_asked _ _ (omega arith)
