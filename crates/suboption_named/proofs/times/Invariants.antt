-- `times` meets its contract: what was counted and what is left to count are all.
use Prim.Native.Nat.{◌+◌, ◌-◌, ◌≤◌}
use mathlib.Core.Path.{◌≡◌}
use lib.ListN.{length}
use Rattle.eno.specs.Suboption.{teps}
use Rattle.eno.specs.Judge.{named}
use Rattle.suboption_list.specs.List.{most_items, items_in}
use Rattle.suboption_list.proofs.Left.{left}
use Rattle.suboption_named.proofs.times.Given as goal

abbrev pub invariant-loop-i : goal.invariant-loop-i
invariant-loop-i l = (l.n ≤ l.i) × (l.n + length (named l.t (teps (left l.list l.i))) ≡ length (named l.t (teps (items_in l.list))))

abbrev pub decreases-loop-i : goal.decreases-loop-i
decreases-loop-i l = most_items - l.i
