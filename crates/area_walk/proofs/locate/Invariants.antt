-- `locate` meets its contract: the loop's invariant is `Seen`, and each way through the loop is one of its laws. The measure is what is left of the area.
use Prim.Native.Nat.{◌-◌}
use lib.ListN.{length}
use Rattle.area_walk.proofs.Locating.{Seen}
use Rattle.area_walk.proofs.locate.Given as goal

abbrev pub invariant-loop-kind : goal.invariant-loop-kind
invariant-loop-kind l = Seen l.area l.syn l.i l.seen l.start l.len

abbrev pub decreases-loop-kind : goal.decreases-loop-kind
decreases-loop-kind l = length l.area - l.i
