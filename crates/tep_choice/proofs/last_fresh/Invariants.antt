-- `tep_choice::last_fresh` meets its contract. The loop's invariant: what is found in the list is found in what is left of it.
use Rattle.std.proofs.Common.{◌≡◌, length}
use Rattle.door.specs.Door.{seen_of}
use Rattle.tep_choice.specs.Choosing.{last_fresh}
use Rattle.tep_choice.proofs.last_fresh.Given as goal

abbrev pub invariant-loop-left : goal.invariant-loop-left
invariant-loop-left l = last_fresh l.entries l.left (seen_of l.view).held ≡ last_fresh l.entries l.teps (seen_of l.view).held

abbrev pub decreases-loop-left : goal.decreases-loop-left
decreases-loop-left l = length l.left
