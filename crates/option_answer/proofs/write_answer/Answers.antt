-- `option_answer::write_answer` meets its contract.
use mathlib.Core.Path.{sym, ◌∙◌}
use Rattle.eno.proofs.Laws.Asked.{answer_is_offer}
use Rattle.option_answer.proofs.write_answer.Goals as goal

pub returns : goal.returns
returns c = c.write_offer.ensures ∙ sym (answer_is_offer _ _ _ _ _)
