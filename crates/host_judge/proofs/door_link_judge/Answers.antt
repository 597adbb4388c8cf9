-- `judge_call::door_link_judge` meets its contract.
use Rattle.host_judge_numbers.proofs.Judging.{judged}
use Rattle.host_judge.proofs.door_link_judge.Goals as goal

pub returns : goal.returns
returns c = judged _ c.judge-told.result _ c.verdict_numbers-reply.ensures c.judge-told.ensures
