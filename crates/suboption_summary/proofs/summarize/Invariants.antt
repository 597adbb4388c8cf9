-- `summarize` meets its contract: the loop's invariant is `Told`, and each way through the loop is one of its laws.
use Prim.Native.Nat.{◌-◌}
use lib.ListN.{length}
use Rattle.suboption_summary.proofs.Told.{Told}
use Rattle.suboption_summary.proofs.summarize.Given as goal

abbrev pub invariant-loop-teps : goal.invariant-loop-teps
invariant-loop-teps l = Told l.option l.teps l.i l.first l.global

abbrev pub decreases-loop-teps : goal.decreases-loop-teps
decreases-loop-teps l = length l.option - l.i
