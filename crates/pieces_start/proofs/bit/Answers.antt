-- `pieces_start::bit` meets its contract.
use Rattle.pieces_start.specs.Starting.{bit_on, bit_off}
use Rattle.pieces_start.proofs.bit.Goals as goal

pub returns-then-set : goal.returns-then-set
returns-then-set c = bit_on _ _ c.if-set.true c.requires

pub returns-else-set : goal.returns-else-set
returns-else-set c = bit_off _ _ c.if-set.false
