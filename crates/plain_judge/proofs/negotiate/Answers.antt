-- `negotiate` meets its contract.
use mathlib.Core.Path.{◌∙◌}
use native.Mathlib.Omega.{arith}
use Rattle.judgement.specs.Laws.Found.{short_a, short_b}
use Rattle.plain_judge.proofs.Left.{last_is, none_left, struck_of}
use Rattle.plain_judge.proofs.Concluding.{negotiated_none, negotiated_some}
use Rattle.plain_judge.proofs.negotiate.Goals as goal

pub returns-then-left-eq0 : goal.returns-then-left-eq0
returns-then-left-eq0 c = negotiated_none _ _ _ _ _ _ _ c.host_b_option-b.ensures.0 (none_left _ _ (c.strike-left.ensures.0 ∙ struck_of _ _ _ c.list-all.ensures) (omega arith)) _ c.without_transcript.ensures

pub conclude-requires : goal.conclude-requires
conclude-requires c = (short_a _ _ _ _ c.host_a_option-a.ensures.0 c.requires.0 c.requires.1, short_b _ _ _ _ c.host_b_option-b.ensures.0 c.requires.0 c.requires.1)

pub returns : goal.returns
returns c = negotiated_some _ _ _ _ _ _ _ _ c.host_a_option-a.ensures.0 c.host_b_option-b.ensures.0 c.last_item-last.result (last_is _ _ (c.strike-left.ensures.0 ∙ struck_of _ _ _ c.list-all.ensures) c.strike-left.ensures.1 (omega arith) c.last_item-last.result c.last_item-last.ensures) c.way_of-way.result c.way_of-way.ensures _ c.conclude.ensures
