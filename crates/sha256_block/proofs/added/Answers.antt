-- `sha256_block::added` meets its contract.
use Rattle.std.specs.Prelude.{refl}
use Rattle.hash_layout.specs.Sha256.{plus}
use Rattle.sha256_block.proofs.added.Goals as goal

pub returns : goal.returns
unfolding plus
returns c = refl
