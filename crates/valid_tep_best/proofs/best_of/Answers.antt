-- `best_of` meets its contract: the loop's invariant is `Chosen`.
use native.Mathlib.Omega.{arith}
use Rattle.valid_tep_best.proofs.Choosing.{chosen_start, chosen_step, chosen_all}
use Rattle.valid_tep_best.proofs.best_of.Goals as goal

pub loop-t-init : goal.loop-t-init
loop-t-init c = chosen_start _ _ _ _ _ _

pub loop-t-preserved : goal.loop-t-preserved
loop-t-preserved c =
    chosen_step _ _ _ _ _ _ c.loop-t.invariant (omega arith) _ _ _ _ c.of_a-in_a.ensures c.of_b-in_b.ensures c.way_of-way.ensures c.better_of-best.ensures

pub returns : goal.returns
returns c = chosen_all _ _ _ _ _ _ c.loop-t.invariant (omega arith)
