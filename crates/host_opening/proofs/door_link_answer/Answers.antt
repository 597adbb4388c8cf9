-- `host_opening::door_link_answer` meets its contract.
use Rattle.host_step.specs.Giving.{gives}
use Rattle.host_opening.proofs.door_link_answer.Goals as goal

pub returns : goal.returns
returns c = (gives c.answer-told.result _ _ _ _ c.reply_numbers.ensures c.answer-told.ensures.0, c.answer-told.ensures.1)
