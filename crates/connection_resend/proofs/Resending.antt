-- What resend comes to, by the tests of the code.
use Prim.Native.Nat.{ℕ, ◌≤◌, ◌<◌}
use mathlib.Core.Path.{◌≡◌, sym, ◌∙◌, ap}
use mathlib.Core.List.{List}
use mathlib.Core.Bool.{Bool, true, false, cond, not}
use borrow.Author.Tests.{lt-ltb, le-ltb}
use lib.Dec.{ltb}
use lib.ListN.{length}
use Rattle.wire.specs.Bytes.{pasted}
use Rattle.door.specs.Door.{phase_of, own_option}
use Rattle.door.specs.Outcome.{refused, written, keep}
use Rattle.door.specs.Receive.{may_send, resend}
use Rattle.door.specs.Answers.{phase_as, outcome_as}
use Rattle.door.specs.declared.Door.{Door}
use Rattle.door.specs.declared.Phase.{Phase}
use Rattle.door_data.specs.Tests.{two_tests}

-- resend
module _ (d : Door) (s : List ℕ) (p : Phase) (ep : phase_as p ≡ phase_of d.phase) (b : Bool) (eb : b ≡ may_send (phase_as p)) where
  resend_by : resend d s ≡ cond (not b) (outcome_as (refused 4) s d keep)
      (cond (ltb (length s) (length (own_option d))) (outcome_as (refused 5) s d keep) (outcome_as (written (length (own_option d))) (pasted s 0 (own_option d)) d keep))
  unfolding resend
  resend_by =
      two_tests _ _ _ _ _ _ _
      ∙ ap (λ x. cond (not x) (outcome_as (refused 4) s d keep)
      (cond (ltb (length s) (length (own_option d))) (outcome_as (refused 5) s d keep) (outcome_as (written (length (own_option d))) (pasted s 0 (own_option d)) d keep)))
      (sym (eb ∙ ap may_send ep))

  pub resend_out : b ≡ false → outcome_as (refused 4) s d keep ≡ resend d s
  resend_out e = sym (resend_by ∙ simp e)

  module _ (may : b ≡ true) (o : List ℕ) (eo : o ≡ own_option d) where
    pub resend_short : length s < length o → outcome_as (refused 5) s d keep ≡ resend d s
    resend_short h = sym (resend_by ∙ simp (may, sym eo, lt-ltb _ _ h))

    pub resend_written : length o ≤ length s → (t : List ℕ) → t ≡ pasted s 0 o → outcome_as (written (length o)) t d keep ≡ resend d s
    resend_written h t e =
        ap (λ x. outcome_as (written (length o)) x d keep) e
        ∙ sym (resend_by ∙ simp (may, sym eo, le-ltb _ _ h))
