-- `host_frame::door_link_next_offset` meets its contract.
use Rattle.frame_layout.specs.Outcome.{Outcome}
use Rattle.host_frame_numbers.specs.Replies.{frame_numbers}
use Rattle.host_reply.specs.Telling.{wrapped}
use Rattle.host_frame.proofs.door_link_next_offset.Goals as goal

pub returns : goal.returns
returns c = wrapped (λ (o : Outcome). frame_numbers o.reply) c.next_numbers.ensures c.next_offset-told.ensures
