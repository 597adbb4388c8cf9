-- A door that has answered, by what is in hand, and the TEP byte that it keeps.
use Prim.Native.Nat.{ℕ, ◌+◌, ◌<◌}
use mathlib.Core.Path.{◌≡◌, refl, ◌∙◌, ap}
use mathlib.Core.List.{List, [], ◌∷◌}
use mathlib.Core.Bool.{Bool, true, false, ◌&&◌}
use mathlib.Core.Option.{Option, none, some}
use native.Mathlib.Omega.{arith}
use lib.Dec.{leb}
use lib.ListN.{length}
use Rattle.eno.specs.Tep.{is_known}
use Rattle.eno.specs.Option.{record_listed, answer_fits}
use Rattle.eno.proofs.Laws.Asked.{and_true, is_tep}
use Rattle.eno.specs.declared.SessionRecord.{SessionRecord}
use Rattle.eno.specs.declared.InHand.{InHand}
use Rattle.door.specs.Door.{hand_of, empty_hand}
use Rattle.door.specs.Answer.{answered_door}
use Rattle.answering.specs.Steps.{tep_byte, door_answered}

-- the TEP of an answer has room for v
pub room_for_v : (t : ℕ) (taken : Option SessionRecord) (nonce : List ℕ) → answer_fits t taken nonce ≡ true → t < 0x80
unfolding answer_fits
room_for_v t taken nonce fit =
    let k = is_tep t (and_true (is_known t) (leb (length nonce) 8) (and_true (is_known t && leb (length nonce) 8) (record_listed taken (t ∷ [])) fit).0).0 in
    omega arith

-- the TEP byte
module _ (t : ℕ) (resumed : Bool) where
  pub byte_resumed : resumed ≡ true → t + 0x80 ≡ tep_byte t resumed
  unfolding tep_byte
  byte_resumed e = simp e

  pub byte_fresh : resumed ≡ false → t ≡ tep_byte t resumed
  unfolding tep_byte
  byte_fresh e = simp e

pub door_answered_lem : (o p : List ℕ) (mandatory : Bool) (t : ℕ) (h : InHand) (taken : Option SessionRecord) → h ≡ hand_of taken
    → door_answered o p mandatory t h ≡ answered_door o p mandatory t taken
unfolding door_answered answered_door hand_of empty_hand tep_byte
door_answered_lem o p mandatory t h taken e = ap (door_answered o p mandatory t) e ∙ go taken
  where
    go : (taken : Option SessionRecord) → door_answered o p mandatory t (hand_of taken) ≡ answered_door o p mandatory t taken
    go none = refl
    go (some r) = refl
