-- `host_frame_plaintext::door_link_plaintext_read` meets its contract.
use Rattle.host_frame_numbers.specs.Replies.{plaintext_numbers}
use Rattle.host_reply.specs.Telling.{wrapped}
use Rattle.host_frame_plaintext.proofs.door_link_plaintext_read.Goals as goal

pub returns : goal.returns
returns c = wrapped plaintext_numbers c.plaintext_numbers.ensures c.read_plaintext-told.ensures
