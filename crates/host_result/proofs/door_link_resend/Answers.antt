-- `host_result::door_link_resend` meets its contract.
use Rattle.host_step.specs.Giving.{gives}
use Rattle.host_result.proofs.door_link_resend.Goals as goal

pub returns : goal.returns
returns c = gives c.resend-told.result _ _ _ _ c.reply_numbers.ensures c.resend-told.ensures
