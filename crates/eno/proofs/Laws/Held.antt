-- The record in hand: none, or its session.
use Rattle.std.specs.Prelude.{◌≡◌, true, false}
use Rattle.std.proofs.Math.Option.{none, some}
use Rattle.eno.specs.Session.{in_hand}
use Rattle.eno.specs.declared.InHand.{InHand}

module _ (hand : InHand) where
  pub nothing_held : hand.held ≡ false → in_hand hand ≡ none
  unfolding in_hand
  nothing_held held = simp held

  pub is_held_lem : hand.held ≡ true → in_hand hand ≡ some hand.session
  unfolding in_hand
  is_held_lem held = simp held
