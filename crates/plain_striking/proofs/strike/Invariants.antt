-- `strike` meets its contract: the loop's invariant is `Struck`.
use Prim.Native.Nat.{◌-◌}
use Rattle.eno.specs.Suboption.{teps}
use Rattle.eno.specs.Session.{in_hand}
use Rattle.judgement.specs.Laws.Found.{sides_of}
use Rattle.suboption_list.specs.List.{most_items, items_in}
use Rattle.plain_validity.specs.Validity.{validity_in}
use Rattle.plain_striking.proofs.Struck.{Struck}
use Rattle.plain_striking.proofs.strike.Given as goal

abbrev pub invariant-loop-i : goal.invariant-loop-i
invariant-loop-i l = Struck (validity_in (sides_of (in_hand l.hand) l.own l.peer l.own_is_b) (teps (items_in l.ours)) (teps (items_in l.others))) l.list l.items l.count l.i

abbrev pub decreases-loop-i : goal.decreases-loop-i
decreases-loop-i l = most_items - l.i
