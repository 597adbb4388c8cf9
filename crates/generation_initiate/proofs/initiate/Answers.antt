-- `generation_initiate::initiate` meets its contract.
use native.Mathlib.Omega.{arith}
use mathlib.Core.Path.{sym, ◌∙◌}
use Rattle.generation.specs.Steps.{raised}
use Rattle.generation_initiate.proofs.Ways.{initiate_owed, initiate_past, initiate_finished, initiate_unanswered, initiate_goes}
use Rattle.generation_initiate.proofs.initiate.Goals as goal

pub returns-then-is_owed : goal.returns-then-is_owed
returns-then-is_owed c = initiate_owed _ _ _ (sym c.is_owed.ensures ∙ c.if-is_owed.true)

pub returns-then-g-ge65535 : goal.returns-then-g-ge65535
returns-then-g-ge65535 c = initiate_past _ _ _ (sym c.is_owed.ensures ∙ c.if-is_owed.false) (omega arith)

pub returns-then-g : goal.returns-then-g
returns-then-g c = initiate_finished _ _ _ (sym c.is_owed.ensures ∙ c.if-is_owed.false) (omega arith) c.if-g.true

pub returns-then-is_unanswered : goal.returns-then-is_unanswered
returns-then-is_unanswered c = initiate_unanswered _ _ _ (sym c.is_owed.ensures ∙ c.if-is_owed.false) (omega arith) c.if-g.false (sym c.is_unanswered.ensures ∙ c.if-is_unanswered.true)

pub returns : goal.returns
unfolding raised
returns c = initiate_goes _ _ _ (sym c.is_owed.ensures ∙ c.if-is_owed.false) (omega arith) c.if-g.false (sym c.is_unanswered.ensures ∙ c.if-is_unanswered.false) c.send_one.result c.send_one.ensures
