-- `negotiate` meets its contract.
use mathlib.Core.Path.{◌∙◌}
use Rattle.judgement.specs.Laws.Found.{short_a, short_b}
use Rattle.judge_quick.specs.Laws.Cases.{negotiated_by_lem}
use Rattle.judge.proofs.negotiate.Goals as goal

pub conclude-requires : goal.conclude-requires
conclude-requires c = (short_a _ _ _ _ c.host_a_option-a.ensures.0 c.requires.0 c.requires.1, short_b _ _ _ _ c.host_b_option-b.ensures.0 c.requires.0 c.requires.1)

pub returns : goal.returns
returns c = c.conclude.ensures ∙ negotiated_by_lem _ _ _ _ _ _ _ _ c.host_a_option-a.ensures.0 c.host_b_option-b.ensures.0 c.best_of-best.ensures
