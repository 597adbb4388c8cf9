-- `host_unit::door_link_erase` meets its contract.
use Rattle.host_step.specs.Giving.{gives}
use Rattle.host_unit.proofs.door_link_erase.Goals as goal

pub returns : goal.returns
returns c = (gives c.erase-told.result _ _ _ _ c.reply_numbers.ensures c.erase-told.ensures.0, c.erase-told.ensures.1)
