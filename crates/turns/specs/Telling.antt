-- The view of what is done with a segment loses nothing. Assumes nothing.
use Rattle.std.specs.Prelude.{◌≡◌, refl, Bool, true, false, Option, Some, None}
use Rattle.std.proofs.Common.{sym, ◌∙◌, ap}
use Rattle.door.specs.Door as d
use Rattle.door.specs.Receive as receive
use Rattle.turns.specs.Turns.{turn_as}
use Rattle.turns.specs.declared.Turn.{Turn}
use Rattle.turns.specs.declared.Turn.TheVariants as says

abbrev is_opened : d.Phase → Bool
is_opened d.idle = false
is_opened d.offering = false
is_opened d.crossed = false
is_opened d.answering = false
is_opened d.opened = true
is_opened d.unencrypted = false

abbrev turn_in : receive.Turn → Option Turn
turn_in (receive.judging p) = Some (says.Judging (is_opened p))
turn_in (receive.comparing p) = Some (says.Comparing (is_opened p))
turn_in receive.presence = Some says.Presence
turn_in receive.unchanged = Some says.Unchanged
turn_in receive.out_of_turn = None

turn_back : (x : Option Turn) → turn_in (turn_as x) ≡ x
turn_back (Some (says.Judging true)) = refl
turn_back (Some (says.Judging false)) = refl
turn_back (Some (says.Comparing true)) = refl
turn_back (Some (says.Comparing false)) = refl
turn_back (Some says.Presence) = refl
turn_back (Some says.Unchanged) = refl
turn_back None = refl

pub turn_tells : (x y : Option Turn) → turn_as x ≡ turn_as y → x ≡ y
turn_tells x y e = sym (turn_back x) ∙ (ap turn_in e ∙ turn_back y)
