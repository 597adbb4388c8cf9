-- A door that has offered, by what is in hand.
use Prim.Native.Nat.{ℕ}
use mathlib.Core.Path.{◌≡◌}
use mathlib.Core.List.{List}
use mathlib.Core.Bool.{Bool}
use mathlib.Core.Option.{Option}
use Rattle.eno.specs.declared.SessionRecord.{SessionRecord}
use Rattle.eno.specs.declared.InHand.{InHand}
use Rattle.door.specs.Door.{hand_of}
use Rattle.door.specs.Offer.{door_offered, offered_door}

pub door_offered_lem : (o : List ℕ) (mandatory : Bool) (h : InHand) (taken : Option SessionRecord) → h ≡ hand_of taken → door_offered o mandatory h ≡ offered_door o mandatory taken
unfolding offered_door
door_offered_lem o mandatory h taken e = rw e
