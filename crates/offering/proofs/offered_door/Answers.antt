-- `offering::offered_door` meets its contract.
use Rattle.std.proofs.Common.{ap₂, ◌∙◌}
use mathlib.Core.List.{List}
use mathlib.Core.Bool.{Bool}
use Prim.Native.Nat.{ℕ}
use lib.ListN.{length}
use Rattle.eno.specs.declared.InHand.{InHand}
use Rattle.door.specs.Door.{kept, idle_door}
use Rattle.door.specs.declared.Door.{Door}
use Rattle.door_data.specs.Laws.{kept_whole}
use Rattle.offering.proofs.offered_door.Goals as goal

abbrev made : ℕ → Bool → InHand → List ℕ → Door → Door
made n mandatory hand own d =
    record {
      phase = 1;
      mandatory = mandatory;
      cause = d.cause;
      role = d.role;
      tep = d.tep;
      resumed = d.resumed;
      own_length = n;
      peer_length = d.peer_length;
      own = own;
      peer = d.peer;
      hand = hand;
    }

pub returns : goal.returns
unfolding kept idle_door
returns c = let a = c.args in ap₂ (made (length a.own.now) a.mandatory a.hand) (c.kept_option.ensures ∙ kept_whole _ c.requires) c.idle_door.ensures
