-- `init_reader::key_at` meets its contract: the key fills the first bytes of an array of zeros.
use Rattle.init_reader.proofs.Filling.{key_filled}
use Rattle.init_reader.proofs.key_at.Goals as goal

pub returns : goal.returns
returns c = key_filled _ _ _ _ c.requires.0 c.requires.1 c.copy.ensures
