-- `list` meets its contract: the loop's invariant is `Listing`, and each way through the loop is one of its laws.
use Prim.Native.Nat.{◌-◌}
use lib.ListN.{length}
use Rattle.suboption_lister.proofs.Listing.{Listing}
use Rattle.suboption_lister.proofs.list.Given as goal

abbrev pub invariant-loop-items : goal.invariant-loop-items
invariant-loop-items l = Listing l.option l.items l.count l.i

abbrev pub decreases-loop-items : goal.decreases-loop-items
decreases-loop-items l = length l.option - l.i
