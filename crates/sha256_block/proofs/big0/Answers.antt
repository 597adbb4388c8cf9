-- `sha256_block::big0` meets its contract.
use Rattle.std.proofs.Common.{ap₂}
use Rattle.std.specs.Int.Bits.{bit_xor}
use Rattle.hash_layout.specs.Sha256.{big_sigma0}
use Rattle.sha256_block.proofs.big0.Goals as goal

pub returns : goal.returns
unfolding big_sigma0
returns c =
    ap₂ bit_xor (ap₂ bit_xor c.rotate_right.ensures c.rotate_right-2.ensures) c.rotate_right-3.ensures
