-- What receive comes to, by the tests of the code.
use Prim.Native.Nat.{ℕ, ◌≤◌, ◌<◌}
use Rattle.std.specs.Prelude.{Some, Ok}
use Rattle.std.specs.Prelude as code
use mathlib.Core.Path.{◌≡◌, refl, sym, ◌∙◌, ap}
use mathlib.Core.List.{List, []}
use mathlib.Core.Bool.{Bool, true, false, cond}
use borrow.Author.Tests.{lt-ltb, le-ltb}
use lib.Dec.{ltb}
use lib.ListN.{length}
use Rattle.door.specs.Door.{phase_of}
use Rattle.door.specs.Outcome.{Outcome, refused, keep}
use Rattle.door.specs.Receive as receive-spec
use Rattle.door.specs.Receive.{turn, is_out_of_turn, received, replies, receive}
use Rattle.door.specs.Answers.{phase_as, reply_of, outcome_as}
use Rattle.door.specs.declared.Reply.{Reply}
use Rattle.door.specs.declared.Door.{Door}
use Rattle.door.specs.declared.Phase.{Phase}
use Rattle.door_data.specs.Tests.{two_tests}
use Rattle.turns.specs.Turns.{turn_as}
use Rattle.turns.specs.declared.Turn.{Turn}
use Rattle.turns.specs.declared.Turn.TheVariants as says

module _ (d : Door) (syn ack : Bool) (area : List ℕ) where
  abbrev outcome_at : receive-spec.Turn → Outcome
  outcome_at t =
      cond (ltb 40 (length area)) (outcome_as (refused 2) [] d keep)
      (cond (is_out_of_turn t) (outcome_as (refused 4) [] d keep) (outcome_as (replies (received d t area)) [] (received d t area) keep))

  receive_at : receive d syn ack area ≡ outcome_at (turn (phase_of d.phase) syn ack)
  unfolding receive
  receive_at = two_tests _ _ _ _ _ _ _

  pub receive_long : 40 < length area → outcome_as (refused 2) [] d keep ≡ receive d syn ack area
  receive_long h = sym (receive_at ∙ simp (lt-ltb _ _ h))

  module _ (short : length area ≤ 40) (p : Phase) (ep : phase_as p ≡ phase_of d.phase) (t : code.Option Turn) (et : turn_as t ≡ turn (phase_as p) syn ack) (u : code.Option Turn) (eu : t ≡ u) where
    receive_by : receive d syn ack area ≡ outcome_at (turn_as u)
    receive_by = receive_at ∙ ap outcome_at (sym (ap turn_as (sym eu) ∙ (et ∙ ap (λ x. turn x syn ack) ep)))

    pub receive_out : is_out_of_turn (turn_as u) ≡ true → outcome_as (refused 4) [] d keep ≡ receive d syn ack area
    receive_out e = sym (receive_by ∙ simp (le-ltb _ _ short, e))

    pub receive_told : is_out_of_turn (turn_as u) ≡ false → (e : Door) → e ≡ received d (turn_as u) area → (r : Reply) → reply_of (Ok r) [] ≡ replies e
        → outcome_as (reply_of (Ok r) []) [] e keep ≡ receive d syn ack area
    receive_told f e h r q =
        ap (λ x. outcome_as x [] e keep) q
        ∙ (ap (λ x. outcome_as (replies x) [] x keep) h ∙ sym (receive_by ∙ simp (le-ltb _ _ short, f)))

-- a turn that is taken is none that is out of turn
pub in_turn : (t : Turn) → is_out_of_turn (turn_as (Some t)) ≡ false
in_turn (says.Judging opens) = refl
in_turn (says.Comparing opens) = refl
in_turn says.Presence = refl
in_turn says.Unchanged = refl
