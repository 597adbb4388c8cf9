-- `times` meets its contract: what was counted and what is left to count are all.
use Prim.Native.Nat.{◌+◌, ◌-◌}
use mathlib.Core.Path.{◌≡◌, ◌∙◌, ap}
use native.Mathlib.Omega.{arith}
use lib.ListN.{length}
use Rattle.eno.specs.Suboption.{teps}
use Rattle.eno.specs.Judge.{named}
use Rattle.suboption_list.specs.List.{items_in}
use Rattle.suboption_list.proofs.Left.{left_all, left_item, left_end, left_most}
use Rattle.suboption_named.proofs.Questions.{at_most_one, times_next, times_end}
use Rattle.suboption_named.proofs.times.Goals as goal

pub loop-i-init : goal.loop-i-init
loop-i-init c = let a = c.args in (omega arith, ap (λ l. 0 + length (named a.t (teps l))) (left_all _) ∙ (let e : 0 + length (named a.t (teps (items_in a.list))) ≡ length (named a.t (teps (items_in a.list))) = omega arith in e))

pub returns-then-list-i : goal.returns-then-list-i
returns-then-list-i c = times_end _ _ (left_end _ _ (omega arith)) _ _ c.loop-i.invariant.1

pub offset_bounds-list-i : goal.offset_bounds-list-i
offset_bounds-list-i c = omega arith

pub bounds-list-i : goal.bounds-list-i
bounds-list-i c = omega arith

pub overflow_add-n : goal.overflow_add-n
overflow_add-n c = let h = at_most_one _ c.is_named.result c.one_if-more.ensures in omega arith

pub overflow_add-i : goal.overflow_add-i
overflow_add-i c = omega arith

pub loop-i-smaller : goal.loop-i-smaller
loop-i-smaller c = omega arith

pub loop-i-preserved : goal.loop-i-preserved
loop-i-preserved c = let h = at_most_one _ c.is_named.result c.one_if-more.ensures in (omega arith, times_next _ _ _ _ (left_item _ _ (omega arith) (omega arith)) _ c.is_named.ensures _ _ c.one_if-more.ensures _ c.loop-i.invariant.1)

pub returns : goal.returns
returns c = times_end _ _ (left_most _ _ (omega arith)) _ _ c.loop-i.invariant.1
