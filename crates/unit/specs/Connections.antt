-- A door's connection in a list of calls: what it is judged by, and why it is plain.
use Rattle.std.specs.Prelude.{◌≡◌, Bool, true, false, List, ℕ, length, take}
use Rattle.std.proofs.Math.Option.{Option, some}
use Rattle.eno.specs.declared.Cause.{Cause}
use Rattle.eno.specs.Area.{syn_option}
use Rattle.eno.specs.Session.{in_hand}
use Rattle.eno.specs.Judge as judged
use Rattle.eno.specs.Judge.{Judged, judge}
use Rattle.eno.specs.declared.SessionRecord.{SessionRecord}
use Rattle.door.specs.Door.{Phase, idle, offering, crossed, answering, opened, unencrypted, phase_of, peer_option}
use Rattle.door.specs.Outcome.{written, plain}
use Rattle.door.specs.Answer as a
use Rattle.door.specs.Answer.{plain_for}
use Rattle.door.specs.Receive.{comparing, presence, turn, second_reason, presence_reason}
use Rattle.door.specs.Calls.{Ask, offer, answer, receive}
use Rattle.door.specs.declared.Door.{Door}
use Rattle.unit.specs.Run.{Call}
use Rattle.unit.specs.History.{seen_after, door_after, told_after, door_then, Since}

-- Offered; Plain; a verdict stands: Crossed, Answered, Open or Plain
abbrev pub Offered : Door → Type 0
Offered e = phase_of e.phase ≡ offering

abbrev pub InPlain : Door → Type 0
InPlain e = phase_of e.phase ≡ unencrypted

abbrev pub is_decided : Phase → Bool
is_decided idle = false
is_decided offering = false
is_decided crossed = true
is_decided answering = true
is_decided opened = true
is_decided unencrypted = true

abbrev pub Decided : Door → Type 0
Decided e = is_decided (phase_of e.phase) ≡ true

-- an offer or answer of door d, made after the calls xs, is accepted: it writes the option into its lent buffer, and leaves a record in hand or none
pub record Wrote (d : ℕ) (xs : List Call) (a : Ask) (option : List ℕ) (hand : Option SessionRecord) : Type 0 where
  pub says : (told_after d xs a).reply ≡ written (length option)
  pub bytes : take (length option) (told_after d xs a).buffer ≡ option
  pub hand_is : in_hand (door_then d xs a).hand ≡ hand

-- what a connection is judged by: this end's terms, the record in hand, its own option, and the option area of the other side's SYN
pub record Terms : Type 0 where
  pub mandatory : Bool
  pub hand : Option SessionRecord
  pub own : List ℕ
  pub area : List ℕ

abbrev pub verdict : Terms → Judged
verdict t = judge t.mandatory t.hand t.own t.area

-- door d's connection after the calls cs is judged by t
pub data JudgedBy (d : ℕ) (cs : List Call) (t : Terms) : Type 0 where
  -- an offer wrote the option; then the door was Offered until it received the SYN; since then a verdict has stood
  of_offer_lem : (xs ys : List Call) (b : ℕ) (aware : Bool) (list : List ℕ) (resume : Bool) (nonce lent : List ℕ) (ack : Bool)
      → Wrote d xs (offer b aware t.mandatory list resume nonce lent) t.own t.hand
      → Since Offered d ys xs (offer b aware t.mandatory list resume nonce lent)
      → Since Decided d cs ys (receive true ack t.area) → JudgedBy d cs t
  -- an answer to the SYN wrote the option; since then a verdict has stood
  of_answer_lem : (xs : List Call) (aware : Bool) (list nonce lent : List ℕ) → Wrote d xs (answer t.area aware t.mandatory list nonce lent) t.own t.hand
      → Since Decided d cs xs (answer t.area aware t.mandatory list nonce lent) → JudgedBy d cs t

-- why door d is in Plain after the calls cs
pub data PlainFor (d : ℕ) (cs : List Call) (n : Cause) : Type 0 where
  -- the judge's reason
  by_judge : (t : Terms) → JudgedBy d cs t → verdict t ≡ judged.plain n → PlainFor d cs n
  -- an answer's own
  by_answer : (xs : List Call) (area : List ℕ) (aware mandatory : Bool) (list nonce lent : List ℕ) → a.answering (seen_after d xs) mandatory area list ≡ plain_for n
      → (told_after d xs (answer area aware mandatory list nonce lent)).reply ≡ plain n → Since InPlain d cs xs (answer area aware mandatory list nonce lent) → PlainFor d cs n
  -- that of a second SYN, which is compared with the option of the first
  by_second : (xs : List Call) (t : Terms) → JudgedBy d xs t → peer_option (door_after d xs) ≡ syn_option t.area → (ack : Bool) (area : List ℕ) (then : Phase)
      → turn (phase_of (door_after d xs).phase) true ack ≡ comparing then → second_reason (door_after d xs) area ≡ some n → Since InPlain d cs xs (receive true ack area) → PlainFor d cs n
  -- that of a non-SYN, in which the option must be present
  by_presence : (xs : List Call) (t : Terms) → JudgedBy d xs t → (ack : Bool) (area : List ℕ) → turn (phase_of (door_after d xs).phase) false ack ≡ presence
      → presence_reason area ≡ some n → Since InPlain d cs xs (receive false ack area) → PlainFor d cs n
