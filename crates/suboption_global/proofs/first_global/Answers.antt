-- `first_global` meets its contract: the first global byte of what is left is that of the list.
use Prim.Native.Nat.{◌+◌, ◌-◌}
use mathlib.Core.Path.{◌∙◌, ap}
use native.Mathlib.Omega.{arith}
use borrow.Author.Tests.{not-true, not-false}
use Rattle.eno.specs.Suboption.{global_byte}
use Rattle.suboption_list.specs.Left.{at}
use Rattle.suboption_list.proofs.Left.{left, left_all, left_item, left_end, left_most}
use Rattle.suboption_global.proofs.Questions.{global_here, global_next, global_none}
use Rattle.suboption_global.proofs.first_global.Goals as goal

pub loop-i-init : goal.loop-i-init
loop-i-init c = ap global_byte (left_all _)

pub returns-then-list-i : goal.returns-then-list-i
returns-then-list-i c = global_none _ (left_end _ _ (omega arith)) ∙ c.loop-i.invariant

pub offset_bounds-list-i : goal.offset_bounds-list-i
offset_bounds-list-i c = omega arith

pub bounds-list-i : goal.bounds-list-i
bounds-list-i c = omega arith

pub returns-then-not-s : goal.returns-then-not-s
returns-then-not-s c =
    let l = c.args.list in
    let i = c.loop-i.i in
    global_here (at l i) (left l (i + 1)) (left l i) (left_item l i (omega arith) (omega arith)) (not-true _ c.if-not-s.true) ∙ c.loop-i.invariant

pub overflow_add-i : goal.overflow_add-i
overflow_add-i c = omega arith

pub loop-i-smaller : goal.loop-i-smaller
loop-i-smaller c = omega arith

pub loop-i-preserved : goal.loop-i-preserved
loop-i-preserved c =
    let l = c.args.list in
    let i = c.loop-i.i in
    global_next (at l i) (left l (i + 1)) (left l i) (left_item l i (omega arith) (omega arith)) (not-false _ c.if-not-s.false) ∙ c.loop-i.invariant

pub returns : goal.returns
returns c = global_none _ (left_most _ _ (omega arith)) ∙ c.loop-i.invariant
