-- `answering::answered_door` meets its contract.
use mathlib.Core.Path.{◌≡◌, ◌∙◌}
use mathlib.Core.List.{List}
use mathlib.Core.Bool.{Bool}
use Prim.Native.Nat.{ℕ}
use lib.ListN.{length}
use Rattle.eno.specs.declared.InHand.{InHand}
use Rattle.door.specs.Door.{idle_door}
use Rattle.door.specs.declared.Door.{Door}
use Rattle.door_data.specs.Laws.{kept_whole}
use Rattle.answering.specs.Steps.{door_answered}
use Rattle.answering.proofs.answered_door.Goals as goal

abbrev door : ℕ → ℕ → Bool → InHand → ℕ → List ℕ → List ℕ → Door → Door
door n m mandatory hand tep own peer d =
    record {
      phase = 3;
      mandatory = mandatory;
      cause = d.cause;
      role = 1;
      tep = tep;
      resumed = hand.held;
      own_length = n;
      peer_length = m;
      own = own;
      peer = peer;
      hand = hand;
    }

made : (n m : ℕ) (mandatory : Bool) (hand : InHand) {t u : ℕ} {o p x y : List ℕ} {d e : Door} → t ≡ u → o ≡ p → x ≡ y → d ≡ e → door n m mandatory hand t o x d ≡ door n m mandatory hand u p y e
made n m mandatory hand e f g h = λ i. door n m mandatory hand (e i) (f i) (g i) (h i)

pub returns : goal.returns
unfolding door_answered idle_door
returns c =
    let a = c.args in
    made (length a.own.now) (length a.option.now) a.mandatory a.hand c.tep_byte.ensures (c.kept_option.ensures ∙ kept_whole _ c.requires.0)
    (c.kept_option-2.ensures ∙ kept_whole _ c.requires.1) c.idle_door.ensures
