-- `init_calls::door_link_init2_write` meets its contract.
use Rattle.host_init_numbers.proofs.Giving.{gives_init}
use Rattle.host_init.proofs.door_link_init2_write.Goals as goal

pub returns : goal.returns
returns c = gives_init _ _ _ _ c.writing_numbers.ensures c.init2_write-told.ensures
