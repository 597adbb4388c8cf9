-- `door_search::first_sought` meets its contract. The loop's invariant: none of the first i records passes the test.
use Prim.Native.Nat.{◌+◌}
use mathlib.Core.Path.{◌≡◌}
use lib.ListN.{drop}
use Rattle.door.specs.Record.{first_that}
use Rattle.door.specs.Door.{seen_of}
use Rattle.door_search.specs.Search.{is_sought}
use Rattle.door_search.proofs.first_sought.Given as goal

abbrev pub invariant-loop-i : goal.invariant-loop-i
invariant-loop-i l = first_that (is_sought l.sought l.bytes) (seen_of l.fn.view).held ≡ l.i + first_that (is_sought l.sought l.bytes) (drop l.i (seen_of l.fn.view).held)
