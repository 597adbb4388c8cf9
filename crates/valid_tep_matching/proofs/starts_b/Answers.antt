-- `starts_b` meets its contract.
use Rattle.valid_tep_matching.proofs.Steps.{starts_first, starts_second}
use Rattle.valid_tep_matching.proofs.starts_b.Goals as goal

pub returns-then-own_is_b-role : goal.returns-then-own_is_b-role
returns-then-own_is_b-role c = starts_first _ _ c.if-own_is_b-role.true

pub returns-else-own_is_b-role : goal.returns-else-own_is_b-role
returns-else-own_is_b-role c = starts_second _ _ c.if-own_is_b-role.false
