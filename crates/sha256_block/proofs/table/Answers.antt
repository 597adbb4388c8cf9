-- `sha256_block::table` meets its contract.
use mathlib.Core.Path.{refl}
use Rattle.hash_layout.specs.Constants.{k256}
use Rattle.sha256_block.proofs.table.Goals as goal

pub returns : goal.returns
unfolding k256
returns c = refl
