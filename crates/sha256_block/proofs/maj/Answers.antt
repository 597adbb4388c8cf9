-- `sha256_block::maj` meets its contract.
use mathlib.Core.Path.{refl}
use Rattle.hash_layout.specs.Sha256.{maj}
use Rattle.sha256_block.proofs.maj.Goals as goal

pub returns : goal.returns
unfolding maj
returns c = refl
