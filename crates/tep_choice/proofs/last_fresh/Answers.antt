-- `tep_choice::last_fresh` meets its contract.
use Prim.Native.Nat.{◌-◌}
use mathlib.Core.Path.{◌∙◌}
use native.Mathlib.Omega.{arith}
use lib.ListN.{length}
use lib.Seq.{take-length}
use Rattle.tep_choice.proofs.Lasting.{fresh_none, fresh_here, fresh_before}
use Rattle.tep_choice.proofs.last_fresh.Goals as goal

pub returns-then-is_candidate : goal.returns-then-is_candidate
returns-then-is_candidate c =
    let l = c.loop-left.left.now in
    fresh_here c.args.entries l (length l) (rw take-length) (length l - 1) (omega arith) (omega arith) _ c.entry_of.ensures _ c.is_candidate.ensures c.if-is_candidate.true _ _ c.held_count.ensures.seen ∙ c.loop-left.invariant

pub loop-left-preserved : goal.loop-left-preserved
loop-left-preserved c =
    let l = c.loop-left.left.now in
    fresh_before c.args.entries l (length l) (rw take-length) (length l - 1) (omega arith) (omega arith) _ c.entry_of.ensures _ c.is_candidate.ensures c.if-is_candidate.false _ ∙ c.loop-left.invariant

pub returns : goal.returns
returns c = let l = c.loop-left.left.now in fresh_none c.args.entries l (length l) (rw take-length) (omega arith) _ ∙ c.loop-left.invariant
