-- `plain_reason::absence` meets its contract.
use Rattle.std.specs.Prelude.{Some}
use Rattle.std.proofs.Common.{◌∙◌, ap}
use mathlib.Core.Logic.{inl, inr}
use Rattle.plain_reason.proofs.Absent.{absence_is}
use Rattle.plain_reason.proofs.absence.Goals as goal

pub returns-in-Unreadable : goal.returns-in-Unreadable
returns-in-Unreadable c = absence_is _ _ _ _ c.in-Unreadable.is c.find_status.ensures

pub returns-in-Nothing : goal.returns-in-Nothing
returns-in-Nothing c = ap (λ x. Some x) c.numbered.ensures ∙ absence_is _ _ _ _ c.in-Nothing.is c.find_status.ensures

pub returns-in-Found : goal.returns-in-Found
returns-in-Found c = elim c.in-Found.is [
  | inl e ↦ absence_is _ _ _ _ e c.find_status.ensures
  | inr e ↦ absence_is _ _ _ _ e c.find_status.ensures
]
