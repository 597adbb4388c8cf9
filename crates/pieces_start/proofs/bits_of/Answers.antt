-- `pieces_start::bits_of` meets its contract.
use Rattle.pieces_start.specs.Starting.{bits_are}
use Rattle.pieces_start.proofs.bits_of.Goals as goal

pub returns : goal.returns
returns c = bits_are _ _ _ _ c.bit-aes128.ensures.0 c.bit-aes256.ensures.0 c.bit-chacha20.ensures.0
