-- `sha256::update` meets its contract.
use mathlib.Core.Path.{◌∙◌}
use native.Mathlib.Omega.{arith}
use Rattle.sha256.proofs.Holding.{adds_nothing, adds_turn, adds_all, stepped_counts}
use Rattle.sha256.proofs.update.Goals as goal

pub loop-i-init : goal.loop-i-init
loop-i-init c = (omega arith, omega arith, omega arith, adds_nothing _ _)

pub step-t-requires : goal.step-t-requires
step-t-requires c = (omega arith, omega arith, omega arith)

pub loop-i-smaller : goal.loop-i-smaller
loop-i-smaller c = let p = c.step-t.ensures in omega (arith, p.onward, p.within)

pub loop-i-preserved : goal.loop-i-preserved
loop-i-preserved c =
    let l = c.loop-i in
    let a = c.args in
    let p = c.step-t.ensures in
    let q = stepped_counts l.r _ l.buf _ a.part.now l.i _ p in
    (p.within, q.1 ∙ l.invariant.1, omega (arith, q.0, p.onward), adds_turn _ l.r _ _ l.buf _ a.part.now l.i _ l.invariant.3 p)

pub shape_of-buf : goal.shape_of-buf
shape_of-buf c = c.loop-i.invariant.3.size

pub returns : goal.returns
returns c = let l = c.loop-i in adds_all _ l.r _ l.buf c.args.part.now l.i l.invariant.3 (omega arith)
