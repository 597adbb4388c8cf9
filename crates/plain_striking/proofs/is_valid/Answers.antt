-- `is_valid` meets its contract.
use mathlib.Core.Path.{◌∙◌, ap}
use borrow.Author.Tests.{not-true, not-false}
use Rattle.plain_striking.specs.Striking.{is_valid}
use Rattle.plain_striking.proofs.Struck.{stays_global, stays_by, valid_some}
use Rattle.plain_striking.proofs.is_valid.Goals as goal

pub returns-then-not-x : goal.returns-then-not-x
returns-then-not-x c = stays_global _ _ (not-true _ c.if-not-x.true)

pub returns : goal.returns
returns c = stays_by _ _ (not-false _ c.if-not-x.false) _ (c.is_some.ensures ∙ (valid_some _ ∙ ap is_valid c.way_of-way.ensures))
