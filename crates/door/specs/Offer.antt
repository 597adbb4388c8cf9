-- Offer (Idle).
use Rattle.std.specs.Prelude.{ℕ, List, [], ◌∷◌, Bool, true, false, cond, not, ◌&&◌, ◌||◌, ltb, leb, length}
use Rattle.std.proofs.Math.Option.{Option, none, some}
use Rattle.wire.specs.Bytes.{pasted}
use Rattle.eno.specs.Cause.{numbered}
use Rattle.eno.specs.Option.{is_listed, is_tep_list, offered, option_with}
use Rattle.eno.specs.declared.SessionRecord.{SessionRecord}
use Rattle.eno.specs.declared.InHand.{InHand}
use Rattle.door.specs.Door.{Phase, idle, offering, crossed, answering, opened, unencrypted, phase_of, kept, hand_of, Seen}
use Rattle.door.specs.Record.{first_that, record_at}
use Rattle.door.specs.Outcome.{Outcome, written, keep, remove, refusal, unless}
use Rattle.door.specs.declared.Door.{Door}

abbrev pub is_idle : Phase → Bool
is_idle idle = true
is_idle offering = false
is_idle crossed = false
is_idle answering = false
is_idle opened = false
is_idle unencrypted = false

-- what offer and answer share of number 3: a TEP list, a resumption nonce of at most 8 bytes, mandatory only with a
unfoldable pub terms_fit : Bool → Bool → List ℕ → List ℕ → Bool
terms_fit aware mandatory list nonce = is_tep_list list && leb (length nonce) 8 && (aware || not mandatory)

-- if resuming, the oldest record that this door holds whose TEP is listed
unfoldable pub offered_at : Bool → List ℕ → List SessionRecord → ℕ
offered_at resume list held = cond resume (first_that (λ r. is_listed r.tep list) held) (length held)

-- a door that has sent the option o, by what it has in hand
abbrev pub door_offered : List ℕ → Bool → InHand → Door
door_offered o mandatory hand =
    record {
      phase = 1;
      mandatory = mandatory;
      cause = numbered 0;
      role = 0;
      tep = 0;
      resumed = false;
      own_length = length o;
      peer_length = 0;
      own = kept o;
      peer = kept [];
      hand = hand;
    }

-- with a record in hand or none
unfoldable pub offered_door : List ℕ → Bool → Option SessionRecord → Door
offered_door o mandatory hand = door_offered o mandatory (hand_of hand)

-- the record leaves the pool and is in hand; it never goes back
unfoldable pub offer : Seen → (b : ℕ) (aware mandatory : Bool) (list : List ℕ) (resume : Bool) (nonce s : List ℕ) → Outcome
offer v b aware mandatory list resume nonce s =
    let j = offered_at resume list v.held in
    let taken = record_at v.held j in
    let o = option_with (offered b aware list taken nonce) in
    unless
    (refusal (
    (not (leb b 1 && terms_fit aware mandatory list nonce), 3)
    ∷ (not (is_idle (phase_of v.door.phase)), 4)
    ∷ (ltb (length s) (length o), 5)
    ∷ []
    ))
    v.door s
    (record {
      reply = written (length o);
      buffer = pasted s 0 o;
      door = offered_door o mandatory taken;
      effect = cond (ltb j (length v.held)) (remove j) keep;
    })
