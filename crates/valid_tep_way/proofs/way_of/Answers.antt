-- `way_of` meets its contract.
use native.Mathlib.Omega.{arith}
use borrow.Author.Tests.{not-true, not-false}
use Rattle.valid_tep_way.proofs.Steps.{way_not_a, way_not_b, way_bad_a, way_bad_b, way_fresh, way_fresh_a, way_resumed, way_no_match}
use Rattle.valid_tep_way.proofs.way_of.Goals as goal
use Rattle.valid_tep_way.proofs.way_of.Goals.{then-of_a-ne1-via-then-of_a-ne1, then-of_a-ne1-via-else-of_a-ne1+then-of_b-ne1, then-of_a-ne1-via-else-of_a-ne1+else-of_b-ne1+then-is_bad, then-of_a-ne1-via-else-of_a-ne1+else-of_b-ne1+else-is_bad+then-is_bad-2}
use Rattle.valid_tep_way.proofs.way_of.Goals.{else-not-is_fresh-via-then-not-is_fresh+else-matches, else-not-is_fresh-via-else-not-is_fresh}

pub returns-then-of_a-ne1 : goal.returns-then-of_a-ne1
returns-then-of_a-ne1 c = elim c.then-of_a-ne1.branch [
  | then-of_a-ne1-via-then-of_a-ne1 w ↦ way_not_a _ _ _ _ _ _ _ (omega arith)
  | then-of_a-ne1-via-else-of_a-ne1+then-of_b-ne1 w ↦ way_not_b _ _ _ _ _ _ _ (omega arith) (omega arith)
  | then-of_a-ne1-via-else-of_a-ne1+else-of_b-ne1+then-is_bad w ↦ way_bad_a _ _ _ _ _ _ _ (omega arith) (omega arith) _ w.is_bad.ensures w.if-is_bad.true
  | then-of_a-ne1-via-else-of_a-ne1+else-of_b-ne1+else-is_bad+then-is_bad-2 w ↦ way_bad_b _ _ _ _ _ _ _ (omega arith) (omega arith) _ w.is_bad.ensures w.if-is_bad.false _ w.is_bad-else-is_bad.ensures w.if-is_bad-2.true
]

pub returns-then-is_fresh : goal.returns-then-is_fresh
returns-then-is_fresh c = way_fresh _ _ _ _ _ _ _ (omega arith) (omega arith) _ c.is_bad.ensures c.if-is_bad.false _ c.is_bad-else-is_bad.ensures c.if-is_bad-2.false _ c.is_fresh.ensures c.if-is_fresh.true

pub returns-then-matches : goal.returns-then-matches
returns-then-matches c = way_resumed _ _ _ _ _ _ _ (omega arith) (omega arith) _ c.is_bad.ensures c.if-is_bad.false _ c.is_bad-else-is_bad.ensures c.if-is_bad-2.false _ c.is_fresh.ensures c.if-is_fresh.false _ c.is_fresh-2.ensures c.if-not-is_fresh.true _ c.matches.ensures c.if-matches.true

pub returns-else-not-is_fresh : goal.returns-else-not-is_fresh
returns-else-not-is_fresh c = elim c.else-not-is_fresh.branch [
  | else-not-is_fresh-via-then-not-is_fresh+else-matches w ↦ way_no_match _ _ _ _ _ _ _ (omega arith) (omega arith) _ c.is_bad.ensures c.if-is_bad.false _ c.is_bad-else-is_bad.ensures c.if-is_bad-2.false _ c.is_fresh.ensures c.if-is_fresh.false _ c.is_fresh-2.ensures (not-true _ w.if-not-is_fresh.true-raw) _ w.matches.ensures w.if-matches.false
  | else-not-is_fresh-via-else-not-is_fresh w ↦ way_fresh_a _ _ _ _ _ _ _ (omega arith) (omega arith) _ c.is_bad.ensures c.if-is_bad.false _ c.is_bad-else-is_bad.ensures c.if-is_bad-2.false _ c.is_fresh.ensures c.if-is_fresh.false _ c.is_fresh-2.ensures (not-false _ w.if-not-is_fresh.false-raw)
]
