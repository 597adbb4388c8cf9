-- `tep_choice::last_resumed` meets its contract.
use Prim.Native.Nat.{◌-◌}
use mathlib.Core.Path.{◌∙◌}
use native.Mathlib.Omega.{arith}
use lib.ListN.{length}
use lib.Seq.{take-length}
use Rattle.tep_choice.proofs.Lasting.{resumed_none, resumed_here, resumed_before}
use Rattle.tep_choice.proofs.last_resumed.Goals as goal

pub returns-then-at-count : goal.returns-then-at-count
returns-then-at-count c =
    let l = c.loop-left.left.now in
    resumed_here _ c.args.entries l _ (length l) (rw take-length) (length l - 1) (omega arith) (omega arith) _ c.entry_of.ensures _ c.fitting-at.ensures (omega (arith, c.held_count-count.ensures.seen)) ∙ c.loop-left.invariant

pub loop-left-preserved : goal.loop-left-preserved
loop-left-preserved c =
    let l = c.loop-left.left.now in
    resumed_before _ c.args.entries l _ (length l) (rw take-length) (length l - 1) (omega arith) (omega arith) _ c.entry_of.ensures _ c.fitting-at.ensures (omega (arith, c.held_count-count.ensures.seen)) ∙ c.loop-left.invariant

pub returns : goal.returns
returns c = let l = c.loop-left.left.now in resumed_none _ c.args.entries l _ (length l) (rw take-length) (omega arith) ∙ c.loop-left.invariant
