-- `of_a` meets its contract.
use Rattle.judgement.proofs.Steps.{a_peer, a_own}
use Rattle.judgement.proofs.of_a.Goals as goal

pub returns-then-own_is_b : goal.returns-then-own_is_b
returns-then-own_is_b g c = a_peer _ _ _ c.if-own_is_b.true

pub returns-else-own_is_b : goal.returns-else-own_is_b
returns-else-own_is_b g c = a_own _ _ _ c.if-own_is_b.false
