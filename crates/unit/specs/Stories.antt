-- What a door stores is what its connection says: true of a door of the empty unit, and kept by each call.
use Rattle.std.specs.Prelude.{◌≡◌, Bool, ◌&&◌, ◌||◌, ℕ, ◌≤◌, ◌<◌, length}
use Rattle.std.proofs.Common.{◌∙◌}
use Rattle.std.proofs.Math.Bool.{true, false}
use Rattle.std.proofs.Math.Option.{Option}
use mathlib.Core.List.{List, ◌∷◌, ◌++◌}
use Rattle.eno.specs.declared.Cause.{Cause}
use Rattle.eno.specs.Area.{syn_option}
use Rattle.eno.specs.Session.{in_hand}
use Rattle.eno.specs.Judge.{Way, resumed, encrypt}
use Rattle.eno.specs.declared.SessionRecord.{SessionRecord}
use Rattle.door.specs.Door.{Phase, idle, offering, crossed, answering, opened, unencrypted, phase_of, peer_option}
use Rattle.door.specs.Offer.{offered_door}
use Rattle.door.specs.Answer.{plain_door}
use Rattle.door.specs.Verdict.{Stored}
use Rattle.door.specs.Calls.{offer}
use Rattle.door.specs.declared.Door.{Door}
use Rattle.unit.specs.Run.{Call}
use Rattle.unit.specs.History.{Since}
use Rattle.unit.specs.Connections.{Offered, Wrote, Terms, verdict, JudgedBy, PlainFor}

-- a door holds the verdict on t
pub record Holding (d : ℕ) (cs : List Call) (e : Door) (t : Terms) : Type 0 where
  pub by : JudgedBy d cs t
  pub role : ℕ
  pub byte : ℕ
  pub way : Way
  pub transcript : List ℕ
  pub verdict_is : verdict t ≡ encrypt role byte way transcript
  pub stored : Stored e role byte way transcript
  pub peer_is : peer_option e ≡ syn_option t.area

abbrev pub is_waiting : Phase → Bool
is_waiting idle = false
is_waiting offering = false
is_waiting crossed = true
is_waiting answering = true
is_waiting opened = false
is_waiting unencrypted = false

-- a door after the calls cs, by its phase
pub data Story (d : ℕ) (cs : List Call) (e : Door) : Type 0 where
  resting : phase_of e.phase ≡ idle → Story d cs e
  sent : (xs : List Call) (b : ℕ) (aware mandatory : Bool) (list : List ℕ) (resume : Bool) (nonce lent option : List ℕ) (hand : Option SessionRecord)
      → Wrote d xs (offer b aware mandatory list resume nonce lent) option hand → Since Offered d cs xs (offer b aware mandatory list resume nonce lent)
      → e ≡ offered_door option mandatory hand → length option ≤ 40 → syn_option option ≡ option → Story d cs e
  waiting : (t : Terms) → Holding d cs e t → is_waiting (phase_of e.phase) ≡ true → in_hand e.hand ≡ t.hand → Story d cs e
  open_as : (t : Terms) → Holding d cs e t → phase_of e.phase ≡ opened → (e.resumed ≡ true → in_hand e.hand ≡ t.hand) → Story d cs e
  plain_as : (n : Cause) → PlainFor d cs n → e ≡ plain_door n → Story d cs e
