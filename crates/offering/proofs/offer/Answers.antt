-- `offering::offer` meets its contract.
use mathlib.Core.Path.{sym, ◌∙◌}
use native.Mathlib.Omega.{arith}
use Rattle.door.specs.Door.{seen_of}
use Rattle.opening.specs.Laws.Terms.{terms_list, terms_nonce}
use Rattle.offering.proofs.Taken.{offer_fits_lem}
use Rattle.offering.proofs.Outcomes.{offer_role, offer_terms, offer_turn, offer_goes}
use Rattle.offering.proofs.offer.Goals as goal

pub returns-then-b-gt1 : goal.returns-then-b-gt1
unfolding seen_of
returns-then-b-gt1 c = offer_role (seen_of c.args.view) _ _ _ _ _ _ _ (omega arith)

pub returns-then-not-terms_fit : goal.returns-then-not-terms_fit
unfolding seen_of
returns-then-not-terms_fit c = offer_terms (seen_of c.args.view) _ _ _ _ _ _ _ (omega arith) (sym c.if-not-terms_fit.ensures)

pub returns-then-not-is_idle : goal.returns-then-not-is_idle
unfolding seen_of
returns-then-not-is_idle c = offer_turn (seen_of c.args.view) _ _ _ _ _ _ _ (omega arith) (sym c.if-not-terms_fit.ensures) (sym c.if-not-is_idle.ensures)

pub propose-requires : goal.propose-requires
propose-requires c = let fit = (sym c.if-not-terms_fit.ensures) in offer_fits_lem _ _ _ _ _ _ (omega arith) (terms_list _ _ _ _ fit) (terms_nonce _ _ _ _ fit) c.offered_at-j.ensures

pub returns : goal.returns
unfolding seen_of
returns c = c.propose.ensures ∙ offer_goes _ _ _ _ _ _ _ _ (omega arith) (sym c.if-not-terms_fit.ensures) (sym c.if-not-is_idle.ensures) _ c.offered_at-j.ensures
