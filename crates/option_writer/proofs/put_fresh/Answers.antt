-- `option_writer::put_fresh` meets its contract.
use native.Mathlib.Omega.{arith}
use Rattle.option_layout.specs.FreshLaws.{fresh_begin, next_room, puts_next}
use Rattle.option_writer.proofs.put_fresh.Goals as goal

pub loop-t-init : goal.loop-t-init
loop-t-init c = let a = c.args in fresh_begin _ a.s.now a.list.now a.at

pub put_if_fresh-next-requires : goal.put_if_fresh-next-requires
put_if_fresh-next-requires c =
    let l = c.loop-t in
    next_room _ c.args.s.now c.args.list.now _ l.t-index _ _ l.invariant c.requires (omega arith)

pub loop-t-preserved : goal.loop-t-preserved
loop-t-preserved c =
    let l = c.loop-t in
    puts_next _ c.args.s.now c.args.list.now _ l.t-index _ _ l.invariant c.requires (omega arith) _ _ c.put_if_fresh-next.ensures
