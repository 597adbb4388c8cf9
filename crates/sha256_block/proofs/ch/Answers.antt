-- `sha256_block::ch` meets its contract.
use mathlib.Core.Path.{refl}
use Rattle.hash_layout.specs.Sha256.{ch}
use Rattle.sha256_block.proofs.ch.Goals as goal

pub returns : goal.returns
unfolding ch
returns c = refl
