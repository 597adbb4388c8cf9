-- `first_global` meets its contract: the first global byte of what is left is that of the list.
use Prim.Native.Nat.{◌-◌}
use mathlib.Core.Path.{◌≡◌}
use Rattle.eno.specs.Suboption.{global_byte}
use Rattle.suboption_list.specs.List.{most_items, items_in}
use Rattle.suboption_list.proofs.Left.{left}
use Rattle.suboption_global.proofs.first_global.Given as goal

abbrev pub invariant-loop-i : goal.invariant-loop-i
invariant-loop-i l = global_byte (left l.list l.i) ≡ global_byte (items_in l.list)

abbrev pub decreases-loop-i : goal.decreases-loop-i
decreases-loop-i l = most_items - l.i
