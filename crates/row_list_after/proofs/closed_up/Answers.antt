-- `row_list_after::closed_up` meets its contract.
use borrow.Author.Rules.{rules}
use mathlib.Core.Path.{◌≡◌, sym, ap, ◌∙◌}
use Prim.Native.Nat.{ℕ, ◌-◌}
use native.Mathlib.Omega.{arith}
use lib.ListN.{set, length-set}
use Rattle.door.specs.Numbers.{each_n}
use Rattle.row_list_after.proofs.ClosingUp.{closed_take, closed_more, closed_all}
use Rattle.row_list_after.proofs.closed_up.Goals as goal

pub loop-k-init : goal.loop-k-init
unfolding each_n
loop-k-init c = (c.well_formed.0.1.0.1, closed_take c.args.j c.args.numbers (omega (arith, c.well_formed.0.1.0.1)))

pub overflow_add-left : goal.overflow_add-left
unfolding each_n
overflow_add-left c = search rules

pub bounds-numbers-k : goal.bounds-numbers-k
unfolding each_n
bounds-numbers-k c = search rules

pub bounds-left-k : goal.bounds-left-k
unfolding each_n
bounds-left-k c = search rules

pub bounds-left-3 : goal.bounds-left-3
unfolding each_n
bounds-left-3 c = search rules

pub returns : goal.returns
unfolding each_n
returns c =
    let e : c.loop-k.k ≡ each_n - 1 = omega arith in
    ap (λ (i : ℕ). set c.loop-k.left i 0) (sym e) ∙ closed_all c.args.j c.args.numbers c.loop-k.left c.loop-k.k (omega (arith, c.well_formed.0.1.0.1)) (omega (arith, c.well_formed.0.1.0.1)) c.loop-k.invariant.1 (omega arith) (omega (arith, c.well_formed.0.1.0.1))

pub loop-k-preserved : goal.loop-k-preserved
unfolding each_n
loop-k-preserved c =
    (rw length-set c.loop-k.invariant.0, closed_more c.args.j c.args.numbers c.loop-k.left c.loop-k.k (omega (arith, c.well_formed.0.1.0.1)) (omega (arith, c.well_formed.0.1.0.1)) c.loop-k.invariant.1 (omega arith) (omega (arith, c.well_formed.0.1.0.1)))
