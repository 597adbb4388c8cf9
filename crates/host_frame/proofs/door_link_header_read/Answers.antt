-- `host_frame::door_link_header_read` meets its contract.
use Rattle.host_frame_numbers.specs.Replies.{header_numbers}
use Rattle.host_reply.specs.Telling.{wrapped}
use Rattle.host_frame.proofs.door_link_header_read.Goals as goal

pub returns : goal.returns
returns c = wrapped header_numbers c.header_numbers.ensures c.read_header-told.ensures
