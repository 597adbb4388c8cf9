-- `host_records::door_link_store` meets its contract.
use Rattle.host_step.specs.Giving.{gives}
use Rattle.host_records.proofs.door_link_store.Goals as goal

pub returns : goal.returns
returns c = (gives c.store-told.result _ _ _ _ c.reply_numbers.ensures c.store-told.ensures.0, c.store-told.ensures.1)
