-- `sha256_block::block` meets its contract.
use Rattle.std.proofs.Common.{rules, ap, arith, List, ℕ, get_or}
use Rattle.sha256_block.proofs.Schedule.{rounds_start, rounds_next, compress_done}
use Rattle.sha256_block.proofs.block.Goals as goal

pub loop-t-init : goal.loop-t-init
loop-t-init c = (search rules, search rules, c.table-k.ensures, rounds_start _ _)

pub loop-t-preserved : goal.loop-t-preserved
loop-t-preserved c =
    let l = c.loop-t in
    let i = l.invariant in
    (i.0, i.1, i.2, rounds_next _ _ l.s _ l.t _ i.3 (ap (λ (x : List ℕ). get_or x l.t 0) i.2) c.round-s.ensures)

pub returns : goal.returns
returns c =
    compress_done _ _ _ c.loop-t.s _ c.loop-t.t c.scheduled-w.ensures c.loop-t.invariant.3 (omega arith) c.added.ensures
