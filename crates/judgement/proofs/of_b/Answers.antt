-- `of_b` meets its contract.
use Rattle.judgement.proofs.Steps.{b_own, b_peer}
use Rattle.judgement.proofs.of_b.Goals as goal

pub returns-then-own_is_b : goal.returns-then-own_is_b
returns-then-own_is_b g c = b_own _ _ _ c.if-own_is_b.true

pub returns-else-own_is_b : goal.returns-else-own_is_b
returns-else-own_is_b g c = b_peer _ _ _ c.if-own_is_b.false
