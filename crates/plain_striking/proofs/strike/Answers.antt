-- `strike` meets its contract: the loop's invariant is `Struck`.
use mathlib.Core.Path.{refl}
use native.Mathlib.Omega.{arith}
use Rattle.suboption_list.proofs.Left.{left_end, left_most}
use Rattle.plain_striking.proofs.Struck.{struck_start, struck_stays, struck_goes, struck_end}
use Rattle.plain_striking.proofs.strike.Goals as goal

pub loop-i-init : goal.loop-i-init
loop-i-init c = struck_start _ _ _ c.global_item-none.ensures

pub returns-then-list-i : goal.returns-then-list-i
returns-then-list-i c = struck_end _ _ c.loop-i.invariant (left_end _ _ (omega arith))

pub offset_bounds-list-i : goal.offset_bounds-list-i
offset_bounds-list-i c = omega arith

pub bounds-list-i : goal.bounds-list-i
bounds-list-i c = omega arith

pub overflow_add-next : goal.overflow_add-next
overflow_add-next c = omega arith

pub offset_bounds-items-count : goal.offset_bounds-items-count
offset_bounds-items-count c = let h = c.loop-i.invariant.behind in omega arith

pub bounds-items-count : goal.bounds-items-count
bounds-items-count c = let h = c.loop-i.invariant.behind in omega arith

pub overflow_add-count : goal.overflow_add-count
overflow_add-count c = let h = c.loop-i.invariant.behind in omega arith

pub loop-i-smaller-then-is_valid : goal.loop-i-smaller-then-is_valid
loop-i-smaller-then-is_valid c = omega arith

pub loop-i-preserved-then-is_valid : goal.loop-i-preserved-then-is_valid
loop-i-preserved-then-is_valid c = struck_stays _ _ c.loop-i.invariant (omega arith) (omega arith) _ c.is_valid.ensures c.if-is_valid.true _ refl _ refl

pub loop-i-smaller : goal.loop-i-smaller
loop-i-smaller c = omega arith

pub loop-i-preserved : goal.loop-i-preserved
loop-i-preserved c = struck_goes _ _ c.loop-i.invariant (omega arith) (omega arith) _ c.is_valid.ensures c.if-is_valid.false _ refl

pub returns : goal.returns
returns c = struck_end _ _ c.loop-i.invariant (left_most _ _ (omega arith))
