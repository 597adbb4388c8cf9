-- `sha256_block::block` meets its contract.
use Rattle.std.specs.Prelude.{◌≡◌, length}
use Rattle.hash_layout.specs.Sha256.{rounds}
use Rattle.hash_layout.specs.Constants.{k256}
use Rattle.sha256_block.proofs.block.Given as goal

abbrev pub invariant-loop-t : goal.invariant-loop-t
invariant-loop-t l = (length l.w ≡ 64) × (length l.k ≡ 64) × (l.k ≡ k256) × (l.s ≡ rounds l.w l.h l.t)
