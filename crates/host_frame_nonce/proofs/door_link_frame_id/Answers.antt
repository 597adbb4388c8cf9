-- `host_frame_nonce::door_link_frame_id` meets its contract.
use mathlib.Core.Path.{ap}
use Rattle.host_frame_numbers.specs.Replies.{id_of}
use Rattle.host_frame_nonce.proofs.door_link_frame_id.Goals as goal

pub returns : goal.returns
returns c = ap id_of c.frame_id-bytes.ensures
