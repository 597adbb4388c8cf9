-- `wire::copy` meets its contract. The loop's invariant: the first k bytes of v are copied, the rest of s is as it was.
use Rattle.std.proofs.Common.{◌+◌, ◌∙◌, arith}
use lib.ListN.{get_or, length-set}
use Rattle.wire.proofs.CopyLoop.{copied_step, copied_done}
use Rattle.wire.proofs.copy.Goals as goal

pub loop-k-preserved : goal.loop-k-preserved
loop-k-preserved c =
    let a = c.args in
    let l = c.loop-k in (
      length-set l.s (a.at + l.k) (get_or a.v.now l.k 0) ∙ l.invariant.0,
      copied_step a.s.now a.at a.v.now l.s l.k (omega arith) (omega arith) l.invariant.1,
    )

pub returns-after-loop-k : goal.returns-after-loop-k
returns-after-loop-k c =
    let a = c.args in
    let l = c.loop-k in
    copied_done a.s.now a.at a.v.now l.s l.k (omega arith) l.invariant.1 (omega arith) (omega arith)
