-- `receive` meets its contract.
use Rattle.std.specs.Prelude.{Some, None, Err}
use Rattle.std.proofs.Common.{◌≡◌, ◌∙◌, ap, refl, arith}
use Rattle.door.specs.declared.Refusal.TheVariants as refusal
use Rattle.segments.specs.Answers.{received_as}
use Rattle.segments.proofs.Outcomes.{receive_long, receive_out, receive_told, in_turn}
use Rattle.segments.proofs.receive.Goals as goal

pub returns-then-area-gt40 : goal.returns-then-area-gt40
returns-then-area-gt40 c = receive_long _ _ _ _ c.if-area-gt40.true

pub returns-in_err-turn : goal.returns-in_err-turn
returns-in_err-turn c =
    let none : c.turn_of.result ≡ None = grind arith in
    let out : c.from_residual.result ≡ Err refusal.OutOfTurn = grind arith in
    ap (λ x. received_as x c.args.door) out ∙ receive_out _ _ _ _ c.if-area-gt40.false _ c.phase_of-phase.ensures _ c.turn_of.ensures _ none refl

pub returns : goal.returns
returns c =
    let some : c.turn_of.result ≡ Some c.in_ok-turn.turn = grind arith in
    receive_told _ _ _ _ c.if-area-gt40.false _ c.phase_of-phase.ensures _ c.turn_of.ensures _ some (in_turn c.in_ok-turn.turn) _ c.after_turn-after.ensures _ c.reply_now.ensures
