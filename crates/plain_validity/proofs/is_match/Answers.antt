-- `is_match` meets its contract.
use mathlib.Core.Path.{refl, ◌∙◌}
use native.Mathlib.Omega.{arith}
use borrow.Author.Rules.{rules}
use borrow.Author.Tests.{not-true, not-false}
use Rattle.eno.proofs.Halves.{half_at}
use Rattle.plain_validity.proofs.Halves.{match_none, match_other, match_not, match_if}
use Rattle.plain_validity.proofs.is_match.Goals as goal
use Rattle.plain_validity.proofs.is_match.Goals.{then-not-hand-via-then-not-hand, then-not-hand-via-else-not-hand+then-session-t}

pub returns-then-not-hand : goal.returns-then-not-hand
returns-then-not-hand c = elim c.then-not-hand.branch [
  | then-not-hand-via-then-not-hand w ↦ match_none _ _ _ _ _ _ (not-true _ w.if-not-hand.true)
  | then-not-hand-via-else-not-hand+then-session-t w ↦ match_other _ _ _ _ _ _ (not-false _ w.if-not-hand.false) (omega arith)
]

pub returns-then-stands_at : goal.returns-then-stands_at
returns-then-stands_at c =
    match_if _ _ _ _ _ _ (not-false _ c.if-not-hand.false) (omega arith) _ c.sent_from-sent.ensures.0 _ refl _
    (c.stands_at.ensures ∙ half_at _ _ _ _ _ _ c.sent_from-sent.ensures.1 (search rules) refl refl) c.if-stands_at.true _ refl _
    (c.stands_at-then-stands_at.ensures ∙ half_at _ _ _ _ _ _ (omega arith) (search rules) refl refl)

pub returns-else-stands_at : goal.returns-else-stands_at
returns-else-stands_at c =
    c.if-stands_at.false
    ∙ match_not _ _ _ _ _ _ (not-false _ c.if-not-hand.false) (omega arith) _ c.sent_from-sent.ensures.0 _ refl _
    (c.stands_at.ensures ∙ half_at _ _ _ _ _ _ c.sent_from-sent.ensures.1 (search rules) refl refl) c.if-stands_at.false
