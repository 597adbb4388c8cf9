-- `host_segments::door_link_receive` meets its contract.
use Rattle.host_step.specs.Giving.{gives}
use Rattle.host_segments.proofs.door_link_receive.Goals as goal

pub returns : goal.returns
returns c = (gives c.receive-told.result _ _ _ _ c.reply_numbers.ensures c.receive-told.ensures.0, c.receive-told.ensures.1)
