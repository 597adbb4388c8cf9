-- `first_named` meets its contract: the first of that name in what is left is that of the list.
use Prim.Native.Nat.{◌-◌}
use mathlib.Core.Path.{◌∙◌, ap}
use native.Mathlib.Omega.{arith}
use Rattle.eno.specs.Suboption.{teps}
use Rattle.eno.specs.Judge.{named}
use Rattle.suboption_list.specs.List.{first_item}
use Rattle.suboption_list.proofs.Left.{left_all, left_item, left_end, left_most}
use Rattle.suboption_named.proofs.Questions.{first_here, first_next, first_none}
use Rattle.suboption_named.proofs.first_named.Goals as goal

pub loop-i-init : goal.loop-i-init
loop-i-init c = ap (λ l. first_item (named c.args.t (teps l))) (left_all _)

pub returns-then-list-i : goal.returns-then-list-i
returns-then-list-i c = c.global_item.ensures ∙ (first_none _ _ (left_end _ _ (omega arith)) ∙ c.loop-i.invariant)

pub offset_bounds-list-i : goal.offset_bounds-list-i
offset_bounds-list-i c = omega arith

pub bounds-list-i : goal.bounds-list-i
bounds-list-i c = omega arith

pub returns-then-is_named : goal.returns-then-is_named
returns-then-is_named c = first_here _ _ _ _ (left_item _ _ (omega arith) (omega arith)) _ c.is_named.ensures c.if-is_named.true ∙ c.loop-i.invariant

pub overflow_add-i : goal.overflow_add-i
overflow_add-i c = omega arith

pub loop-i-smaller : goal.loop-i-smaller
loop-i-smaller c = omega arith

pub loop-i-preserved : goal.loop-i-preserved
loop-i-preserved c = first_next _ _ _ _ (left_item _ _ (omega arith) (omega arith)) _ c.is_named.ensures c.if-is_named.false ∙ c.loop-i.invariant

pub returns : goal.returns
returns c = c.global_item-2.ensures ∙ (first_none _ _ (left_most _ _ (omega arith)) ∙ c.loop-i.invariant)
