-- `way_of` meets its contract.
use mathlib.Core.Path.{◌∙◌, ap}
use mathlib.Core.Bool.{not}
use native.Mathlib.Omega.{arith}
use Rattle.plain_validity.proofs.Cases.{valid_unknown, valid_own_times, valid_peer_times, valid_bad_own, valid_bad_peer, valid_fresh, valid_no_resumption_own, valid_no_resumption_peer, valid_resumed, valid_no_match}
use Rattle.plain_validity.proofs.way_of.Goals as goal
use Rattle.plain_validity.proofs.way_of.Goals.{then-is_none-via-then-is_none, then-is_none-via-else-is_none+then-times-ne1, then-is_none-via-else-is_none+else-times-ne1+then-times-ne1-2}
use Rattle.plain_validity.proofs.way_of.Goals.{then-is_bad-via-then-is_bad, then-is_bad-via-else-is_bad+then-is_bad-2}
use Rattle.plain_validity.proofs.way_of.Goals.{else-is_resumption-via-then-is_resumption+then-is_resumption-2+else-is_match, else-is_resumption-via-then-is_resumption+else-is_resumption-2, else-is_resumption-via-else-is_resumption}

pub returns-then-is_none : goal.returns-then-is_none
returns-then-is_none c = elim c.then-is_none.branch [
  | then-is_none-via-then-is_none w ↦ valid_unknown _ _ _ _ _ c.of.ensures.known (c.is_none.ensures ∙ ap not w.if-is_none.true)
  | then-is_none-via-else-is_none+then-times-ne1 w ↦ valid_own_times _ _ _ _ _ c.of.ensures.known (c.is_none.ensures ∙ ap not w.if-is_none.false) _ w.times.ensures (omega arith)
  | then-is_none-via-else-is_none+else-times-ne1+then-times-ne1-2 w ↦ valid_peer_times _ _ _ _ _ c.of.ensures.known (c.is_none.ensures ∙ ap not w.if-is_none.false) _ w.times.ensures (omega arith) _ w.times-else-times-ne1.ensures (omega arith)
]

pub returns-then-is_bad : goal.returns-then-is_bad
returns-then-is_bad c = elim c.then-is_bad.branch [
  | then-is_bad-via-then-is_bad w ↦ valid_bad_own _ _ _ _ _ c.of.ensures.known (c.is_none.ensures ∙ ap not c.if-is_none.false) _ c.times.ensures (omega arith) _ c.times-else-times-ne1.ensures (omega arith) _ _ c.first_named-mine.ensures c.first_named-theirs.ensures _ c.is_bad.ensures w.if-is_bad.true
  | then-is_bad-via-else-is_bad+then-is_bad-2 w ↦ valid_bad_peer _ _ _ _ _ c.of.ensures.known (c.is_none.ensures ∙ ap not c.if-is_none.false) _ c.times.ensures (omega arith) _ c.times-else-times-ne1.ensures (omega arith) _ _ c.first_named-mine.ensures c.first_named-theirs.ensures _ c.is_bad.ensures w.if-is_bad.false _ w.is_bad-else-is_bad.ensures w.if-is_bad-2.true
]

pub returns-then-is_fresh : goal.returns-then-is_fresh
returns-then-is_fresh c = valid_fresh _ _ _ _ _ c.of.ensures.known (c.is_none.ensures ∙ ap not c.if-is_none.false) _ c.times.ensures (omega arith) _ c.times-else-times-ne1.ensures (omega arith) _ _ c.first_named-mine.ensures c.first_named-theirs.ensures _ c.is_bad.ensures c.if-is_bad.false _ c.is_bad-else-is_bad.ensures c.if-is_bad-2.false _ c.of_b.ensures _ c.is_fresh.ensures c.if-is_fresh.true

pub returns-then-is_match : goal.returns-then-is_match
returns-then-is_match c = valid_resumed _ _ _ _ _ c.of.ensures.known (c.is_none.ensures ∙ ap not c.if-is_none.false) _ c.times.ensures (omega arith) _ c.times-else-times-ne1.ensures (omega arith) _ _ c.first_named-mine.ensures c.first_named-theirs.ensures _ c.is_bad.ensures c.if-is_bad.false _ c.is_bad-else-is_bad.ensures c.if-is_bad-2.false _ c.of_b.ensures _ c.is_fresh.ensures c.if-is_fresh.false _ c.is_resumption.ensures c.if-is_resumption.true _ c.is_resumption-then-is_resumption.ensures c.if-is_resumption-2.true _ c.is_match.ensures c.if-is_match.true

pub returns-else-is_resumption : goal.returns-else-is_resumption
returns-else-is_resumption c = elim c.else-is_resumption.branch [
  | else-is_resumption-via-then-is_resumption+then-is_resumption-2+else-is_match w ↦ valid_no_match _ _ _ _ _ c.of.ensures.known (c.is_none.ensures ∙ ap not c.if-is_none.false) _ c.times.ensures (omega arith) _ c.times-else-times-ne1.ensures (omega arith) _ _ c.first_named-mine.ensures c.first_named-theirs.ensures _ c.is_bad.ensures c.if-is_bad.false _ c.is_bad-else-is_bad.ensures c.if-is_bad-2.false _ c.of_b.ensures _ c.is_fresh.ensures c.if-is_fresh.false _ c.is_resumption.ensures w.if-is_resumption.true _ w.is_resumption-then-is_resumption.ensures w.if-is_resumption-2.true _ w.is_match.ensures w.if-is_match.false
  | else-is_resumption-via-then-is_resumption+else-is_resumption-2 w ↦ valid_no_resumption_peer _ _ _ _ _ c.of.ensures.known (c.is_none.ensures ∙ ap not c.if-is_none.false) _ c.times.ensures (omega arith) _ c.times-else-times-ne1.ensures (omega arith) _ _ c.first_named-mine.ensures c.first_named-theirs.ensures _ c.is_bad.ensures c.if-is_bad.false _ c.is_bad-else-is_bad.ensures c.if-is_bad-2.false _ c.of_b.ensures _ c.is_fresh.ensures c.if-is_fresh.false _ c.is_resumption.ensures w.if-is_resumption.true _ w.is_resumption-then-is_resumption.ensures w.if-is_resumption-2.false
  | else-is_resumption-via-else-is_resumption w ↦ valid_no_resumption_own _ _ _ _ _ c.of.ensures.known (c.is_none.ensures ∙ ap not c.if-is_none.false) _ c.times.ensures (omega arith) _ c.times-else-times-ne1.ensures (omega arith) _ _ c.first_named-mine.ensures c.first_named-theirs.ensures _ c.is_bad.ensures c.if-is_bad.false _ c.is_bad-else-is_bad.ensures c.if-is_bad-2.false _ c.of_b.ensures _ c.is_fresh.ensures c.if-is_fresh.false _ c.is_resumption.ensures w.if-is_resumption.false
]
