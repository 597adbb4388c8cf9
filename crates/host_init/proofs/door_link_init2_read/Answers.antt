-- `init_calls::door_link_init2_read` meets its contract.
use Rattle.host_init_numbers.specs.Replies.{init_numbers}
use Rattle.host_reply.specs.Telling.{wrapped}
use Rattle.host_init.proofs.door_link_init2_read.Goals as goal

pub returns : goal.returns
returns c = wrapped init_numbers c.init_numbers.ensures c.init2_read-told.ensures
