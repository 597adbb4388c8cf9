-- `sha256_block::scheduled` meets its contract.
use Rattle.std.proofs.Common.{refl, sym, ◌∙◌, ap₂, arith, get_or, ◌+◌, ◌-◌, ◌%◌, ◌^◌}
use Rattle.sha256_block.proofs.Schedule.{sched_start, sched_first, sched_later, sum_four, word_at}
use Rattle.sha256_block.proofs.scheduled.Goals as goal

pub loop-t-init : goal.loop-t-init
loop-t-init c = sched_start _ _ refl

pub loop-t-preserved : goal.loop-t-preserved
loop-t-preserved c =
    let l = c.loop-t in
    let a = c.args in
    sched_first _ l.w l.t c.from_be_bytes.result l.invariant (omega arith) (omega arith) (c.from_be_bytes.ensures ∙ sym (word_at a.m.now a.at l.t (omega arith)))

pub loop-t-2-preserved : goal.loop-t-2-preserved
loop-t-2-preserved c =
    let l = c.loop-t-2 in
    let w = l.w in
    let t = l.t in
    sched_later _ w t _ l.invariant (omega arith) (omega arith)
    (sum_four c.small1.result (get_or w (t - 7) 0) c.small0.result (get_or w (t - 16) 0)
    ∙ ap₂ (λ x y. (x + get_or w (t - 7) 0 + y + get_or w (t - 16) 0) % 2 ^ 32) c.small1.ensures c.small0.ensures)
