-- `host_frame_nonce::door_link_nonce` meets its contract.
use Rattle.host_frame_numbers.specs.Replies.{nonce_numbers}
use Rattle.host_reply.specs.Telling.{wrapped}
use Rattle.host_frame_nonce.proofs.door_link_nonce.Goals as goal

pub returns : goal.returns
returns c = wrapped nonce_numbers c.nonce_numbers.ensures c.nonce-told.ensures
