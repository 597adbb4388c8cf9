-- `first_named` meets its contract: the first of that name in what is left is that of the list.
use Prim.Native.Nat.{◌-◌}
use mathlib.Core.Path.{◌≡◌}
use Rattle.eno.specs.Suboption.{teps}
use Rattle.eno.specs.Judge.{named}
use Rattle.suboption_list.specs.List.{most_items, items_in, first_item}
use Rattle.suboption_list.proofs.Left.{left}
use Rattle.suboption_named.proofs.first_named.Given as goal

abbrev pub invariant-loop-i : goal.invariant-loop-i
invariant-loop-i l = first_item (named l.t (teps (left l.list l.i))) ≡ first_item (named l.t (teps (items_in l.list)))

abbrev pub decreases-loop-i : goal.decreases-loop-i
decreases-loop-i l = most_items - l.i
