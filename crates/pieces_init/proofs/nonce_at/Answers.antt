-- `pieces_init::nonce_at` meets its contract.
use Rattle.pieces_init.specs.InitWays.{nonce_two, nonce_one}
use Rattle.pieces_init.proofs.nonce_at.Goals as goal

pub returns-then-two : goal.returns-then-two
returns-then-two c = nonce_two _ _ c.if-two.true

pub returns : goal.returns
returns c = nonce_one _ _ _ c.if-two.false c.count_of-count.ensures.0 c.count_of-count.ensures.1
