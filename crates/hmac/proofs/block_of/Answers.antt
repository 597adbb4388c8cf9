-- `hmac::block_of` meets its contract.
use Rattle.std.proofs.Common.{◌++◌, length, ap₂}
use Rattle.hash_layout.specs.Hmac.{block_of}
use Rattle.hmac.proofs.Blocks.{drop_zeros}
use Rattle.hmac.proofs.block_of.Goals as goal

pub returns : goal.returns
unfolding block_of
returns c = ap₂ (λ x y. x ++ y) c.copy_from_slice.ensures.after (drop_zeros (length c.args.s.now) 64)
