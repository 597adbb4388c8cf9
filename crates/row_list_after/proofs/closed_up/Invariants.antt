-- `row_list_after::closed_up` meets its contract.
use mathlib.Core.Path.{◌≡◌}
use lib.ListN.{length, take}
use Rattle.door.specs.Numbers.{each_n}
use Rattle.row_list_after.proofs.ClosingUp.{closed}
use Rattle.row_list_after.proofs.closed_up.Given as goal

abbrev pub invariant-loop-k : goal.invariant-loop-k
invariant-loop-k l = (length l.left ≡ each_n) × (take l.k l.left ≡ take l.k (closed l.j l.numbers))
