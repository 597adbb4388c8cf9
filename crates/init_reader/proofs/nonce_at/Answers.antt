-- `init_reader::nonce_at` meets its contract: the nonce fills its array.
use Rattle.init_reader.proofs.Filling.{nonce_filled}
use Rattle.init_reader.proofs.nonce_at.Goals as goal

pub returns : goal.returns
returns c = nonce_filled _ _ _ c.requires c.copy_from_slice.ensures.after
