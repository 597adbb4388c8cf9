-- `offering::propose` meets its contract.
use mathlib.Core.Path.{◌∙◌, ap}
use Rattle.eno.specs.Option.{offered}
use Rattle.eno.proofs.Laws.Asked.{offer_may_be_asked}
use Rattle.opening.specs.Steps.{taking}
use Rattle.door.specs.Offer.{door_offered}
use Rattle.door.specs.Outcome.{refused, keep}
use Rattle.door.specs.Answers.{outcome_as}
use Rattle.opening.specs.Laws.Writing.{said_wrote, said_refused, within, written_option, written_short, offer_said}
use Rattle.offering.proofs.Doors.{door_offered_lem}
use Rattle.offering.proofs.Outcomes.{proposed_over, proposed_option}
use Rattle.door.specs.Door.{seen_of}
use Rattle.door.specs.Record.{record_at}
use Rattle.offering.proofs.propose.Goals as goal

pub slice_bounds-offered_door-end : goal.slice_bounds-offered_door-end
slice_bounds-offered_door-end c = within _ _ _ _ (said_wrote (offered c.args.b c.args.aware c.args.teps.now (record_at (seen_of c.args.view).held c.args.j) c.args.nonce.now) _ _ _ (offer_said _ (record_at (seen_of c.args.view).held c.args.j) c.hand_at-hand.ensures _ _ _ _ _ c.requires _ c.write_offer-said.ensures) _ c.in-Ok.is)

pub offered_door-requires : goal.offered_door-requires
offered_door-requires c = written_short _ _ _ _ (said_wrote (offered c.args.b c.args.aware c.args.teps.now (record_at (seen_of c.args.view).held c.args.j) c.args.nonce.now) _ _ _ (offer_said _ (record_at (seen_of c.args.view).held c.args.j) c.hand_at-hand.ensures _ _ _ _ _ c.requires _ c.write_offer-said.ensures) _ c.in-Ok.is) (offer_may_be_asked _ _ _ (record_at (seen_of c.args.view).held c.args.j) _ c.requires)

pub returns-in-Ok : goal.returns-in-Ok
returns-in-Ok c =
    let w = (said_wrote (offered c.args.b c.args.aware c.args.teps.now (record_at (seen_of c.args.view).held c.args.j) c.args.nonce.now) _ _ _ (offer_said _ (record_at (seen_of c.args.view).held c.args.j) c.hand_at-hand.ensures _ _ _ _ _ c.requires _ c.write_offer-said.ensures) _ c.in-Ok.is) in
    proposed_option _ _ _ _ _ _ _ _ _ _ w _
    (c.offered_door.ensures
    ∙ (ap (λ o. door_offered o c.args.mandatory c.hand_at-hand.result) (written_option _ _ _ _ w)
    ∙ door_offered_lem _ _ _ (record_at (seen_of c.args.view).held c.args.j) c.hand_at-hand.ensures))
    _ (c.change_of.ensures ∙ ap (λ n. taking n c.args.j) c.held_count.ensures.seen)

pub returns-in-Err : goal.returns-in-Err
unfolding seen_of
returns-in-Err c =
    let n = said_refused (offered c.args.b c.args.aware c.args.teps.now (record_at (seen_of c.args.view).held c.args.j) c.args.nonce.now) _ _ _ (offer_said _ (record_at (seen_of c.args.view).held c.args.j) c.hand_at-hand.ensures _ _ _ _ _ c.requires _ c.write_offer-said.ensures) _ c.in-Err.is in
    ap (λ k. outcome_as (refused k) c.write_offer-said.new.out c.args.view.door keep) (c.refusal_of.ensures ∙ n.1.1)
    ∙ proposed_over (seen_of c.args.view) _ _ _ _ _ _ _ n.0 _ n.1.0
