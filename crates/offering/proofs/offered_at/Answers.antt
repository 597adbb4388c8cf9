-- `offering::offered_at` meets its contract.
use mathlib.Core.Path.{◌∙◌}
use Rattle.offering.proofs.Taken.{offered_first, offered_none}
use Rattle.door_search.specs.Laws.{first_listed}
use Rattle.offering.proofs.offered_at.Goals as goal

pub returns-then-resume : goal.returns-then-resume
returns-then-resume c = c.first_sought.ensures ∙ first_listed _ _ ∙ offered_first _ _ _ c.if-resume.true

pub returns : goal.returns
returns c = c.held_count.ensures.seen ∙ offered_none _ _ _ c.if-resume.false
