-- `host_records::door_link_forget` meets its contract.
use Rattle.host_step.specs.Giving.{gives}
use Rattle.host_records.proofs.door_link_forget.Goals as goal

pub returns : goal.returns
returns c = (gives c.forget-told.result _ _ _ _ c.reply_numbers.ensures c.forget-told.ensures.0, c.forget-told.ensures.1)
