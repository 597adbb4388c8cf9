-- Receive, resend, result and close.
use Rattle.std.specs.Prelude.{ℕ, ◌%◌, List, [], ◌∷◌, Bool, true, false, cond, not, ◌&&◌, ◌||◌, ltb, length, replicate}
use Rattle.std.proofs.Math.Option.{Option, none, some}
use Rattle.wire.specs.Bytes.{pasted, same_bytes}
use Rattle.eno.specs.Area.{finding, part_of, syn_option}
use Rattle.eno.specs.Cause.{numbered, blame, first_cause}
use Rattle.eno.specs.Suboption.{suboptions, is_ill_formed}
use Rattle.eno.specs.Session.{in_hand}
use Rattle.eno.specs.Judge as judged
use Rattle.eno.specs.Judge.{Way, way_if, is_resumed, Judged, encrypt, is_unreadable, is_missing, too_long, judge}
use Rattle.eno.specs.declared.InHand.{InHand}
use Rattle.eno.specs.declared.Cause.{Cause}
use Rattle.door.specs.Door.{Phase, idle, offering, crossed, answering, opened, unencrypted, phase_of, kept, own_option, peer_option, transcript_of, empty_hand, idle_door}
use Rattle.door.specs.Outcome.{Reply, Outcome, written, plain, now_in, encrypted, done, keep, refusal, unless}
use Rattle.door.specs.Answer.{plain_door}
use Rattle.door.specs.declared.Door.{Door}

-- what receive does in a phase with a segment: judge, compare with the option of the first SYN, look for presence, nothing, or out of turn
pub data Turn : Type 0 where
  judging : (then : Phase) → Turn
  comparing : (then : Phase) → Turn
  presence : Turn
  unchanged : Turn
  out_of_turn : Turn

-- the segment's SYN and ACK flags
unfoldable pub turn : Phase → (syn ack : Bool) → Turn
turn offering true true = judging opened
turn offering true false = judging crossed
turn offering false ack = out_of_turn
turn crossed true true = comparing opened
turn crossed true false = out_of_turn
turn crossed false true = presence
turn crossed false false = out_of_turn
turn answering true true = out_of_turn
turn answering true false = comparing answering
turn answering false true = presence
turn answering false false = out_of_turn
turn opened syn ack = unchanged
turn unencrypted syn ack = unchanged
turn idle syn ack = out_of_turn

-- what is in hand after the door opens: a fresh Open drops it
abbrev pub open_hand : Bool → InHand → InHand
open_hand true h = h
open_hand false h = empty_hand

-- open with the verdict that is stored
unfoldable pub open_door : Door → Door
open_door d =
    record {
      phase = 4;
      mandatory = d.mandatory;
      cause = numbered 0;
      role = d.role;
      tep = d.tep;
      resumed = d.resumed;
      own_length = d.own_length;
      peer_length = d.peer_length;
      own = d.own;
      peer = d.peer;
      hand = open_hand d.resumed d.hand;
    }

-- a verdict and the other side's option, stored
unfoldable pub judged_door : Door → List ℕ → ℕ → ℕ → Way → Door
judged_door d p role byte way =
    record {
      phase = 2;
      mandatory = d.mandatory;
      cause = numbered 0;
      role = role;
      tep = byte;
      resumed = is_resumed way;
      own_length = d.own_length;
      peer_length = length p;
      own = d.own;
      peer = kept p;
      hand = d.hand;
    }

abbrev pub then_in : Phase → Door → Door
then_in idle d = d
then_in offering d = d
then_in crossed d = d
then_in answering d = d
then_in opened d = open_door d
then_in unencrypted d = d

-- judge, then the phase; each reason ends in Plain
abbrev pub after_judging : Door → Phase → List ℕ → Judged → Door
after_judging d then p (judged.refuse n) = d
after_judging d then p (judged.plain n) = plain_door n
after_judging d then p (encrypt role byte way t) = then_in then (judged_door d p role byte way)

-- a second SYN is judged by 1 unreadable area, 2 no ENO option, 3 ill-formed, 7 option altered
unfoldable pub second_reason : Door → List ℕ → Option Cause
second_reason d area =
    first_cause (
    (is_unreadable (finding area true), blame (finding area true))
    ∷ (is_missing (finding area true), numbered 2)
    ∷ (is_ill_formed (suboptions (syn_option area)), numbered 3)
    ∷ (not (same_bytes (syn_option area) (peer_option d)), numbered 7)
    ∷ []
    )

-- a non-SYN by 1 and 2
unfoldable pub presence_reason : List ℕ → Option Cause
presence_reason area = first_cause ((is_unreadable (finding area false), blame (finding area false)) ∷ (is_missing (finding area false), numbered 2) ∷ [])

abbrev pub plain_or : Option Cause → Door → Door
plain_or (some n) d = plain_door n
plain_or none d = d

unfoldable pub received : Door → Turn → List ℕ → Door
received d (judging then) area = after_judging d then (syn_option area) (judge d.mandatory (in_hand d.hand) (own_option d) area)
received d (comparing then) area = plain_or (second_reason d area) (then_in then d)
received d presence area = plain_or (presence_reason area) (open_door d)
received d unchanged area = d
received d out_of_turn area = d

abbrev pub is_out_of_turn : Turn → Bool
is_out_of_turn (judging then) = false
is_out_of_turn (comparing then) = false
is_out_of_turn presence = false
is_out_of_turn unchanged = false
is_out_of_turn out_of_turn = true

-- the reply: the phase that the door is in now, in Plain with the reason
abbrev pub now_says : Phase → Cause → Reply
now_says idle n = now_in idle
now_says offering n = now_in offering
now_says crossed n = now_in crossed
now_says answering n = now_in answering
now_says opened n = now_in opened
now_says unencrypted n = plain n

abbrev pub replies : Door → Reply
replies d = now_says (phase_of d.phase) d.cause

unfoldable pub receive : Door → (syn ack : Bool) (area : List ℕ) → Outcome
receive d syn ack area =
    let t = turn (phase_of d.phase) syn ack in
    let e = received d t area in
    unless (refusal ((too_long area, 2) ∷ (is_out_of_turn t, 4) ∷ [])) d [] (record { reply = replies e; buffer = []; door = e; effect = keep })

-- resend writes the same option again
abbrev pub may_send : Phase → Bool
may_send idle = false
may_send offering = true
may_send crossed = true
may_send answering = true
may_send opened = false
may_send unencrypted = false

unfoldable pub resend : Door → List ℕ → Outcome
resend d s =
    let o = own_option d in
    unless (refusal ((not (may_send (phase_of d.phase)), 4) ∷ (ltb (length s) (length o), 5) ∷ [])) d s
    (record { reply = written (length o); buffer = pasted s 0 o; door = d; effect = keep })

-- the secret if resumed; zeros if not
unfoldable pub secret_of : Door → List ℕ
secret_of d = cond d.resumed d.hand.session.secret (replicate 32 0)

abbrev pub is_open : Phase → Bool
is_open idle = false
is_open offering = false
is_open crossed = false
is_open answering = false
is_open opened = true
is_open unencrypted = false

abbrev pub is_plain : Phase → Bool
is_plain idle = false
is_plain offering = false
is_plain crossed = false
is_plain answering = false
is_plain opened = false
is_plain unencrypted = true

-- result: in Open role, TEP byte, fresh or resumed, transcript, and if resumed the secret; in Plain the reason
unfoldable pub result : Door → List ℕ → Outcome
result d s =
    let open? = is_open (phase_of d.phase) in
    let t = transcript_of d in
    unless
    (refusal ((not (open? || is_plain (phase_of d.phase)), 4) ∷ (open? && ltb (length s) (length t), 5) ∷ []))
    d s
    (record {
      reply = cond open? (encrypted d.role d.tep (way_if d.resumed) (length t) (secret_of d)) (plain d.cause);
      buffer = cond open? (pasted s 0 t) s;
      door = d;
      effect = keep;
    })

-- close (any phase): Idle
unfoldable pub close : Outcome
close = record { reply = done; buffer = []; door = idle_door; effect = keep }
