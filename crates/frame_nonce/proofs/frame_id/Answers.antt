-- `frame_nonce::frame_id` meets its contract.
use Rattle.frame_nonce.proofs.Nonces.{id_made}
use mathlib.Core.Path.{refl}
use Rattle.frame_nonce.proofs.frame_id.Goals as goal

pub returns : goal.returns
returns c = id_made _ _ _ refl c.write_frame_id.ensures
