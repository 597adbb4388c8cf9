-- A door's phases and what its stored data say. Odd values are read as stated here; from an empty unit on none arises.
use Rattle.std.specs.Prelude.{ℕ, zero, suc, ◌-◌, ◌≤◌, min, ◌≡◌, List, [], ◌∷◌, ◌++◌, Bool, true, false, cond, eqb, length, take, replicate}
use Rattle.std.proofs.Math.Option.{Option, none, some}
use Rattle.eno.specs.Cause.{numbered}
use Rattle.eno.specs.Judge.{of_a, of_b}
use Rattle.eno.specs.Session.{in_hand}
use Rattle.eno.specs.declared.SessionRecord.{SessionRecord}
use Rattle.eno.specs.declared.InHand.{InHand}
use Rattle.door.specs.Numbers.{each_n}
use Rattle.door.specs.declared.Door.{Door}
use Rattle.door.specs.declared.View.{View}

-- Idle, Offered, Crossed, Answered, Open, Plain
pub data Phase : Type 0 where
  idle : Phase
  offering : Phase
  crossed : Phase
  answering : Phase
  opened : Phase
  unencrypted : Phase

-- a number that no phase has reads as Idle
unfoldable pub phase_of : ℕ → Phase
phase_of zero = idle
phase_of (suc zero) = offering
phase_of (suc (suc zero)) = crossed
phase_of (suc (suc (suc zero))) = answering
phase_of (suc (suc (suc (suc zero)))) = opened
phase_of (suc (suc (suc (suc (suc zero))))) = unencrypted
phase_of (suc (suc (suc (suc (suc (suc n)))))) = idle

unfoldable pub phase_number : Phase → ℕ
phase_number idle = 0
phase_number offering = 1
phase_number crossed = 2
phase_number answering = 3
phase_number opened = 4
phase_number unencrypted = 5

-- an option's bytes in an array of 40, zeros behind it
unfoldable pub kept : List ℕ → List ℕ
kept o = o ++ replicate (40 - length o) 0

-- this end's own option and the other side's
unfoldable pub own_option : Door → List ℕ
own_option d = take (min d.own_length 40) d.own

unfoldable pub peer_option : Door → List ℕ
peer_option d = take (min d.peer_length 40) d.peer

-- A's option followed by B's
unfoldable pub transcript_of : Door → List ℕ
transcript_of d = of_a (eqb d.role 1) (own_option d) (peer_option d) ++ of_b (eqb d.role 1) (own_option d) (peer_option d)

-- zeros
unfoldable pub no_session : SessionRecord
no_session = record { tep = 0; role = 0; identifier = replicate 18 0; secret = replicate 32 0 }

-- nothing in hand: a dropped record is overwritten with zeros
unfoldable pub empty_hand : InHand
empty_hand = record { held = false; session = no_session }

unfoldable pub hand_of : Option SessionRecord → InHand
hand_of none = empty_hand
hand_of (some r) = record { held = true; session = r }

-- a door as it is made
unfoldable pub idle_door : Door
idle_door =
    record {
      phase = 0;
      mandatory = false;
      cause = numbered 0;
      role = 0;
      tep = 0;
      resumed = false;
      own_length = 0;
      peer_length = 0;
      own = replicate 40 0;
      peer = replicate 40 0;
      hand = empty_hand;
    }

-- what a door's calls see
pub record Seen : Type 0 where
  pub door : Door
  pub held : List SessionRecord

-- the records of a view; a count above the most reads as the most
unfoldable pub seen_of : View → Seen
seen_of v = record { door = v.door; held = take (min v.count each_n) v.held }

-- n is the number of records seen, and the view's array has a place for each
pub record Counts (v : View) (n : ℕ) : Type 0 where
  pub seen : n ≡ length (seen_of v).held
  pub few : n ≤ each_n
  pub places : length v.held ≡ each_n
