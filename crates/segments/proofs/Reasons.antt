-- What a later segment comes to: a second SYN is compared, and without SYN the presence of an option counts.
use Rattle.std.specs.Prelude.{Some, None}
use Rattle.std.specs.Prelude as code
use mathlib.Core.Path.{◌≡◌, refl, ◌∙◌, ap}
use mathlib.Core.List.{List}
use mathlib.Core.Bool.{Bool, true, false, cond}
use Prim.Native.Nat.{ℕ}
use Rattle.eno.specs.declared.Cause.{Cause}
use Rattle.door.specs.Door.{answering, opened}
use Rattle.door.specs.Answer.{plain_door}
use Rattle.door.specs.Receive.{comparing, presence, open_door, then_in, second_reason, presence_reason, plain_or, received}
use Rattle.door.specs.declared.Door.{Door}
use Rattle.plain_reason.specs.Reasons.{as_cause, absence_of}
use Rattle.plain_reason.specs.Laws.{no_cause, is_cause}
use Rattle.segment_doors.specs.Steps.{open_if}

-- what opening comes to
then_answered : (b : Bool) (d : Door) → open_if b d ≡ then_in (cond b opened answering) d
unfolding open_if
then_answered true d = refl
then_answered false d = refl

-- a second SYN, compared
module _ (d : Door) (opens : Bool) (area : List ℕ) (a : code.Option Cause) (is : a ≡ as_cause (second_reason d area)) where
  pub compared_same : a ≡ None → (r : Door) → r ≡ open_if opens d → r ≡ received d (comparing (cond opens opened answering)) area
  unfolding received
  compared_same z r e =
      e ∙ (then_answered opens d ∙ ap (λ x. plain_or x (then_in (cond opens opened answering) d)) (no_cause (second_reason d area) a is z))

  pub compared_plain : (c : Cause) → a ≡ Some c → (r : Door) → r ≡ plain_door c → r ≡ received d (comparing (cond opens opened answering)) area
  unfolding received
  compared_plain c z r e = e ∙ ap (λ x. plain_or x (then_in (cond opens opened answering) d)) (is_cause (second_reason d area) a is c z)

-- a segment without SYN
module _ (d : Door) (area : List ℕ) (a : code.Option Cause) (is : a ≡ as_cause (absence_of area false)) where
  pub presence_found : a ≡ None → (r : Door) → r ≡ open_door d → r ≡ received d presence area
  unfolding received presence_reason absence_of
  presence_found z r e = e ∙ ap (λ x. plain_or x (open_door d)) (no_cause (absence_of area false) a is z)

  pub presence_plain : (c : Cause) → a ≡ Some c → (r : Door) → r ≡ plain_door c → r ≡ received d presence area
  unfolding received presence_reason absence_of
  presence_plain c z r e = e ∙ ap (λ x. plain_or x (open_door d)) (is_cause (absence_of area false) a is c z)
