-- `both` meets its contract.
use Rattle.two_judges.specs.Equal.{equal_answers}
use Rattle.two_judges.proofs.both.Goals as goal

pub returns : goal.returns
returns c = (equal_answers _ _ _ _ _ _ c.judge-quick.ensures c.judge_plainly-plain.ensures, c.judge-quick.ensures)
