-- `sha256_block::small1` meets its contract.
use Rattle.std.proofs.Common.{ap₂}
use Rattle.std.specs.Int.Bits.{bit_xor}
use Rattle.hash_layout.specs.Sha256.{sigma1, shr}
use Rattle.sha256_block.proofs.small1.Goals as goal

pub returns : goal.returns
unfolding sigma1
returns c =
    ap₂ (λ x y. bit_xor (bit_xor x y) (shr 10 c.args.x)) c.rotate_right.ensures c.rotate_right-2.ensures
