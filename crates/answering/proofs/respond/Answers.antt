-- `answering::respond` meets its contract.
use mathlib.Core.Path.{◌≡◌, ◌∙◌, ap}
use mathlib.Core.Bool.{true}
use Rattle.eno.specs.Option.{answered, written_as, write_option}
use Rattle.eno.proofs.Laws.Asked.{answer_may_be_asked}
use Rattle.opening.specs.Steps.{taking}
use Rattle.answering.specs.Steps.{door_answered}
use Rattle.opening.specs.Laws.Writing.{Wrote, said_wrote, said_refused, within, written_option, written_short, answer_said}
use Rattle.answering.proofs.Doors.{room_for_v, door_answered_lem}
use Rattle.answering.proofs.Outcomes.{responded_over, responded_option}
use Rattle.option_writer.specs.Answers.{writing_of}
use Rattle.door.specs.Door.{seen_of}
use Rattle.door.specs.Record.{record_at}
use Rattle.door.specs.Outcome.{refused, keep}
use Rattle.door.specs.Answers.{outcome_as}
use Rattle.answering.proofs.respond.Goals as goal

pub slice_bounds-answered_door-end : goal.slice_bounds-answered_door-end
slice_bounds-answered_door-end c =
    let taken = record_at (seen_of c.args.view).held c.args.choice.at in
    let asked = answered c.args.aware c.args.choice.tep taken c.args.nonce.now in
    let said : written_as (writing_of c.write_answer-said.result) c.write_answer-said.new.out ≡ write_option true asked c.args.out.now = answer_said _ taken c.hand_at-hand.ensures _ _ _ _ c.requires.1 _ c.write_answer-said.ensures in
    let wrote : Wrote asked c.args.out.now c.in-Ok.k c.write_answer-said.new.out = said_wrote _ _ _ _ said _ c.in-Ok.is in
    within asked _ _ _ wrote

pub answered_door-requires : goal.answered_door-requires
answered_door-requires c =
    let taken = record_at (seen_of c.args.view).held c.args.choice.at in
    let asked = answered c.args.aware c.args.choice.tep taken c.args.nonce.now in
    let said : written_as (writing_of c.write_answer-said.result) c.write_answer-said.new.out ≡ write_option true asked c.args.out.now = answer_said _ taken c.hand_at-hand.ensures _ _ _ _ c.requires.1 _ c.write_answer-said.ensures in
    let wrote : Wrote asked c.args.out.now c.in-Ok.k c.write_answer-said.new.out = said_wrote _ _ _ _ said _ c.in-Ok.is in
    (written_short asked _ _ _ wrote (answer_may_be_asked _ _ taken _ c.requires.1), c.requires.0, room_for_v _ _ _ c.requires.1)

pub returns-in-Ok : goal.returns-in-Ok
returns-in-Ok c =
    let taken = record_at (seen_of c.args.view).held c.args.choice.at in
    let asked = answered c.args.aware c.args.choice.tep taken c.args.nonce.now in
    let said : written_as (writing_of c.write_answer-said.result) c.write_answer-said.new.out ≡ write_option true asked c.args.out.now = answer_said _ taken c.hand_at-hand.ensures _ _ _ _ c.requires.1 _ c.write_answer-said.ensures in
    let wrote : Wrote asked c.args.out.now c.in-Ok.k c.write_answer-said.new.out = said_wrote _ _ _ _ said _ c.in-Ok.is in
    responded_option _ _ _ _ _ _ _ _ _ _ wrote _ (c.answered_door.ensures ∙ (ap (λ o. door_answered o c.args.option.now c.args.mandatory c.args.choice.tep c.hand_at-hand.result) (written_option asked _ _ _ wrote) ∙ door_answered_lem _ _ _ _ _ taken c.hand_at-hand.ensures)) _ (c.change_of.ensures ∙ ap (λ n. taking n c.args.choice.at) c.held_count.ensures.seen)

pub returns-in-Err : goal.returns-in-Err
unfolding seen_of
returns-in-Err c =
    let taken = record_at (seen_of c.args.view).held c.args.choice.at in
    let asked = answered c.args.aware c.args.choice.tep taken c.args.nonce.now in
    let said : written_as (writing_of c.write_answer-said.result) c.write_answer-said.new.out ≡ write_option true asked c.args.out.now = answer_said _ taken c.hand_at-hand.ensures _ _ _ _ c.requires.1 _ c.write_answer-said.ensures in
    let n = said_refused asked _ _ _ said _ c.in-Err.is in
    ap (λ k. outcome_as (refused k) c.write_answer-said.new.out c.args.view.door keep) (c.refusal_of.ensures ∙ n.1.1)
    ∙ responded_over (seen_of c.args.view) _ _ _ _ _ _ _ n.0 _ n.1.0
