-- `sha256::step` meets its contract.
use Prim.Native.Nat.{◌-◌, ◌%◌}
use mathlib.Core.Path.{refl}
use native.Mathlib.Omega.{arith}
use lib.ListN.{length}
use Rattle.sha256.proofs.Holding.{stepped_whole, stepped_run, stepped_full}
use Rattle.sha256.proofs.step.Goals as goal

pub returns-then-rest-ge64 : goal.returns-then-rest-ge64
returns-then-rest-ge64 c =
    let a = c.args in
    stepped_whole a.s a.buf.now a.part.now a.i c.compress-h.result (omega arith) (omega arith) c.compress-h.ensures

pub returns-then-rest-room : goal.returns-then-rest-room
returns-then-rest-room c =
    let a = c.args in
    stepped_run a.s a.buf.now a.part.now a.i (a.s.len % 64) (length a.part.now - a.i) _ refl (omega arith) (omega arith) (omega arith) c.fill.ensures (omega arith)

pub returns : goal.returns
returns c =
    let a = c.args in
    stepped_full a.s a.buf.now a.part.now a.i (a.s.len % 64) (64 - a.s.len % 64) c.fill-2.new.buf refl (omega arith) (omega arith) (omega arith) c.fill-2.ensures c.compress-h-2.result (omega arith) c.compress-h-2.ensures
