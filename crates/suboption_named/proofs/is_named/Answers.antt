-- `is_named` meets its contract.
use borrow.Author.Tests.{not-true, not-false}
use Rattle.suboption_named.proofs.Questions.{named_global, named_tep}
use Rattle.suboption_named.proofs.is_named.Goals as goal

pub returns-then-not-s : goal.returns-then-not-s
returns-then-not-s c = named_global _ _ (not-true _ c.if-not-s.true)

pub returns : goal.returns
returns c = named_tep _ _ (not-false _ c.if-not-s.false)
