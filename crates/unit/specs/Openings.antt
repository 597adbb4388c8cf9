-- Demand 2, for lists of calls: every result that says resumed belongs to a connection that opened with that record in hand.
use Rattle.std.specs.Prelude.{◌≡◌, Bool, false, ◌⊎◌, ℕ, ◌+◌, ◌≤◌, ◌<◌, replicate}
use Rattle.std.proofs.Common.{◌∙◌}
use Rattle.std.proofs.Math.Bool.{true}
use Rattle.std.proofs.Math.Option.{Option, none, some}
use mathlib.Core.List.{List, ◌∷◌, ◌++◌}
use Rattle.eno.specs.Session.{in_hand}
use Rattle.eno.specs.declared.SessionRecord.{SessionRecord}
use Rattle.door.specs.Calls.{receive}
use Rattle.door.specs.declared.Door.{Door}
use Rattle.unit.specs.Run.{Call}
use Rattle.unit.specs.Resumption.{is_open_now}
use Rattle.unit.specs.History.{door_after, door_then, Since}
use Rattle.unit.specs.Confirmed.{Confirmed}

-- the connection that is open at door d after the calls cs: one receive opened it, with this record in hand or none, and it is still that connection
pub record OpenedWith (d : ℕ) (cs : List Call) (hand : Option SessionRecord) : Type 0 where
  -- the calls before that receive, and the segment
  pub before : List Call
  pub syn : Bool
  pub ack : Bool
  pub area : List ℕ
  -- before it the door was not Open; after it the door is, with the record in hand
  pub was : is_open_now (door_after d before) ≡ false
  pub is : is_open_now (door_then d before (receive syn ack area)) ≡ true
  pub in_hand_lem : in_hand (door_then d before (receive syn ack area)).hand ≡ hand
  -- what confirmed the connection: the verdict on this SYN, the same option again, or an ENO option in this non-SYN
  pub confirmed : Confirmed (door_after d before) syn ack area
  -- ever since, the door's own data (phase, verdict, options, hand) have been what they are now
  pub still : Since (λ (e : Door). e ≡ door_after d cs) d cs before (receive syn ack area)

-- a result that says resumed: the record that the connection is resumed with
pub record Resumed (d : ℕ) (cs : List Call) (secret : List ℕ) : Type 0 where
  pub with_record : SessionRecord
  -- a receive of cs opened the connection with that record in hand
  pub opening : OpenedWith d cs (some with_record)
  -- it is still in hand, and the secret is that record's
  pub hand_is : in_hand (door_after d cs).hand ≡ some with_record
  pub secret_is : secret ≡ with_record.secret

-- a result that says fresh: none was in hand when the connection opened, none is, and the secret is zeros
pub record Fresh (d : ℕ) (cs : List Call) (secret : List ℕ) : Type 0 where
  pub opening : OpenedWith d cs none
  pub hand_is : in_hand (door_after d cs).hand ≡ none
  pub secret_is : secret ≡ replicate 32 0
