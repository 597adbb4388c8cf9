-- What the steps of answer tell.
use Rattle.std.specs.Prelude.{ℕ, ◌+◌, List, [], ◌∷◌, Bool, cond, ltb, length}
use Rattle.eno.specs.Cause.{numbered}
use Rattle.eno.specs.declared.InHand.{InHand}
use Rattle.door.specs.Door.{Seen, kept}
use Rattle.door.specs.Outcome.{Outcome, refusal, unless}
use Rattle.door.specs.Answer.{Answering, answer_length, answer_with}
use Rattle.door.specs.declared.Door.{Door}

-- the byte of the TEP t, with v where a session is resumed
unfoldable pub tep_byte : ℕ → Bool → ℕ
tep_byte t resumed = cond resumed (t + 0x80) t

-- a door that has answered with the option o to the option p, by what it has in hand
unfoldable pub door_answered : List ℕ → List ℕ → Bool → ℕ → InHand → Door
door_answered o p mandatory t hand =
    record {
      phase = 3;
      mandatory = mandatory;
      cause = numbered 0;
      role = 1;
      tep = tep_byte t hand.held;
      resumed = hand.held;
      own_length = length o;
      peer_length = length p;
      own = kept o;
      peer = kept p;
      hand = hand;
    }

-- an answer whose arguments fit, by what it comes to
unfoldable pub responded : Seen → (aware mandatory : Bool) (p nonce s : List ℕ) → Answering → Outcome
responded v aware mandatory p nonce s a =
    unless (refusal ((ltb (length s) (answer_length v aware nonce a), 5) ∷ [])) v.door s (answer_with v aware mandatory p nonce s a)
