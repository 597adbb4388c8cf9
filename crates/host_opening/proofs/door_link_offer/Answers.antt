-- `host_opening::door_link_offer` meets its contract.
use Rattle.host_step.specs.Giving.{gives}
use Rattle.host_opening.proofs.door_link_offer.Goals as goal

pub returns : goal.returns
returns c = (gives c.offer-told.result _ _ _ _ c.reply_numbers.ensures c.offer-told.ensures.0, c.offer-told.ensures.1)
