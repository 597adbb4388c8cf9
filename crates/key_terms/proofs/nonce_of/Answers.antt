-- `key_terms::nonce_of` meets its contract.
use mathlib.Core.Path.{refl}
use Rattle.key_terms.proofs.Giving.{nonce_copied}
use Rattle.key_terms.proofs.nonce_of.Goals as goal

pub returns : goal.returns
returns c = nonce_copied _ _ _ c.requires _ _ _ _ refl refl refl c.copy.ensures
