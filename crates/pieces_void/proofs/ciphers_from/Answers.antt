-- `pieces_void::ciphers_from` meets its contract.
use Rattle.pieces_void.specs.Settling.{from_two, from_one}
use Rattle.pieces_void.proofs.ciphers_from.Goals as goal

pub returns-then-two : goal.returns-then-two
returns-then-two c = from_two _ c.if-two.true

pub returns-else-two : goal.returns-else-two
returns-else-two c = from_one _ c.if-two.false
