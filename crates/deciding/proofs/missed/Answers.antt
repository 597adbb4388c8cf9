-- `deciding::missed` meets its contract.
use mathlib.Core.Path.{sym, ◌∙◌, ap}
use mathlib.Core.Logic.{inl, inr}
use Rattle.door.specs.Answer.{plain_for}
use Rattle.finder.specs.Answers.{status_of}
use Rattle.deciding.proofs.Tests.{missed_by, missed_told}
use Rattle.deciding.proofs.missed.Goals as goal

pub returns-in-Unreadable : goal.returns-in-Unreadable
returns-in-Unreadable c = missed_told _ _ c.find_status.ensures _ (sym (ap (λ x. missed_by (status_of x)) c.in-Unreadable.is))

pub returns-in-Nothing : goal.returns-in-Nothing
returns-in-Nothing c = missed_told _ _ c.find_status.ensures _ (ap plain_for c.numbered.ensures ∙ elim c.in-Nothing.is [
  | inl e ↦ sym (ap (λ x. missed_by (status_of x)) e)
  | inr d ↦ elim d [ inl e ↦ sym (ap (λ x. missed_by (status_of x)) e) | inr e ↦ sym (ap (λ x. missed_by (status_of x)) e) ]
])
