-- `unless_refused` meets its contract.
use Rattle.judge_missed.proofs.Steps.{refused_first_lem, not_refused}
use Rattle.judge_missed.proofs.unless_refused.Goals as goal

pub returns-in-Refused : goal.returns-in-Refused
returns-in-Refused c = refused_first_lem _ _ c.in-Refused.is
