-- `answering::answer` meets its contract.
use mathlib.Core.Path.{sym, ◌∙◌, ap}
use native.Mathlib.Omega.{arith}
use Rattle.door.specs.Door.{seen_of}
use mathlib.Core.List.{[]}
use Rattle.eno.specs.Area.{syn_option}
use Rattle.tep_choice.specs.Choosing.{decision_of}
use Rattle.opening.specs.Laws.Terms.{terms_list}
use Rattle.eno.proofs.Laws.Found.{found_short}
use Rattle.deciding.specs.Laws.{decided_is}
use Rattle.answering.proofs.Outcomes.{answer_long, answer_terms_lem, answer_turn, answer_plain, answer_with_lem, answer_fits_lem}
use Rattle.answering.proofs.answer.Goals as goal

pub returns-then-area-gt40 : goal.returns-then-area-gt40
unfolding seen_of
returns-then-area-gt40 c = answer_long (seen_of c.args.view) _ _ _ _ _ _ (omega arith)

pub returns-then-not-terms_fit : goal.returns-then-not-terms_fit
unfolding seen_of
returns-then-not-terms_fit c = answer_terms_lem (seen_of c.args.view) _ _ _ _ _ _ (omega arith) (sym c.terms_fit.ensures ∙ c.if-not-terms_fit.true)

pub returns-then-not-is_idle : goal.returns-then-not-is_idle
unfolding seen_of
returns-then-not-is_idle c = answer_turn (seen_of c.args.view) _ _ _ _ _ _ (omega arith) (sym c.terms_fit.ensures ∙ c.if-not-terms_fit.false) (sym c.is_idle.ensures ∙ c.if-not-is_idle.true)

pub respond-requires : goal.respond-requires
unfolding syn_option
respond-requires c = (found_short _ _ _ c.find_option-option.ensures.0, answer_fits_lem (seen_of c.args.view) _ _ _ _ _ [] (omega arith) (sym c.terms_fit.ensures ∙ c.if-not-terms_fit.false) _ _ (sym (ap decision_of c.in-Ok.is) ∙ (c.decide.ensures ∙ decided_is _ _ _ _ (omega arith) _ c.find_option-option.ensures.0 (terms_list _ _ _ _ (sym c.terms_fit.ensures ∙ c.if-not-terms_fit.false)))))

pub returns-in-Err : goal.returns-in-Err
unfolding seen_of syn_option
returns-in-Err c = rw c.plain_door-door.ensures (answer_plain _ _ _ _ _ _ _ (omega arith) (sym c.terms_fit.ensures ∙ c.if-not-terms_fit.false) (sym c.is_idle.ensures ∙ c.if-not-is_idle.false) _ (sym (ap decision_of c.in-Err.is) ∙ (c.decide.ensures ∙ decided_is _ _ _ _ (omega arith) _ c.find_option-option.ensures.0 (terms_list _ _ _ _ (sym c.terms_fit.ensures ∙ c.if-not-terms_fit.false)))))

pub returns-in-Ok : goal.returns-in-Ok
unfolding seen_of syn_option
returns-in-Ok c = answer_with_lem _ _ _ _ _ _ _ (omega arith) (sym c.terms_fit.ensures ∙ c.if-not-terms_fit.false) (sym c.is_idle.ensures ∙ c.if-not-is_idle.false) _ c.find_option-option.ensures.0 _ _ (sym (ap decision_of c.in-Ok.is) ∙ (c.decide.ensures ∙ decided_is _ _ _ _ (omega arith) _ c.find_option-option.ensures.0 (terms_list _ _ _ _ (sym c.terms_fit.ensures ∙ c.if-not-terms_fit.false)))) _ c.respond.ensures
