-- `host_result::door_link_result` meets its contract.
use Rattle.std.specs.Prelude.{Ok, Err}
use Rattle.host_step.specs.Giving.{gives_result}
use Rattle.host_result.proofs.door_link_result.Goals as goal

pub returns-in-Ok : goal.returns-in-Ok
returns-in-Ok c = gives_result (Ok c.in-Ok.told) _ _ _ _ c.reply_numbers.ensures c.in-Ok.ensures.0 c.in-Ok.ensures.1

pub returns-in-Err : goal.returns-in-Err
returns-in-Err c = gives_result (Err c.in-Err.refusal) _ _ _ _ c.reply_numbers-in-Err.ensures c.in-Err.ensures.0 c.in-Err.ensures.1
