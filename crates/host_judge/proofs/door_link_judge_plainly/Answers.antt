-- `door_link_judge_plainly` meets its contract.
use Rattle.host_judge_numbers.proofs.Judging.{judged}
use Rattle.host_judge.proofs.door_link_judge_plainly.Goals as goal

pub returns : goal.returns
returns c = judged _ c.judge_plainly-told.result _ c.verdict_numbers-reply.ensures c.judge_plainly-told.ensures
