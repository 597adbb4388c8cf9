-- `last_item` meets its contract.
use mathlib.Core.Path.{refl, ◌∙◌}
use native.Mathlib.Omega.{arith}
use Rattle.suboption_last.proofs.Questions.{last_none, last_of_many, last_there}
use Rattle.suboption_last.proofs.last_item.Goals as goal

pub returns-then-list-eq0 : goal.returns-then-list-eq0
returns-then-list-eq0 c = c.global_item.ensures ∙ last_none _ (omega arith)

pub returns-then-list-gt-MOST : goal.returns-then-list-gt-MOST
returns-then-list-gt-MOST c = last_of_many _ (omega arith)

pub returns : goal.returns
returns c = last_there _ (omega arith) (omega arith) _ refl
