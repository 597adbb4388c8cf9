-- `put` meets its contract: what does not fit changes nothing.
use Rattle.std.proofs.Common.{arith}
use Rattle.text_put.specs.Laws.{after_fits, after_over, pasted_none}
use Rattle.text_put.proofs.put.Goals as goal

pub returns-then-text-out : goal.returns-then-text-out
returns-then-text-out c = record { written = c.copy.ensures; next = after_fits _ _ _ (omega arith) }

pub returns-else-at-out : goal.returns-else-at-out
returns-else-at-out c = record { written = pasted_none _ _ _ (grind arith); next = after_over _ _ _ (grind arith) }
