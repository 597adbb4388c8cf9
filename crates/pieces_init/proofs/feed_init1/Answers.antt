-- `pieces_init::feed_init1` meets its contract.
use mathlib.Core.Path.{refl, ◌∙◌}
use mathlib.Core.List.{[]}
use mathlib.Core.Bool.{false}
use native.Mathlib.Omega.{arith}
use Rattle.pieces_init.specs.InitWays.{no_stage, other_stage, other_one, one_narrow, one_reads, one_fed}
use Rattle.pieces_init.proofs.feed_init1.Goals as goal

pub returns-then-numbers-lt4 : goal.returns-then-numbers-lt4
returns-then-numbers-lt4 c = no_stage _ _ _ false 4 (other_one _ _ _) c.waiting.result c.waiting.ensures (omega arith) (λ q. omega arith)

pub returns-then-stage-ne4 : goal.returns-then-stage-ne4
returns-then-stage-ne4 c = other_stage _ _ _ false 4 (other_one _ _ _) c.waiting-then-stage-ne4.result c.waiting-then-stage-ne4.ensures c.if-stage-ne4.true

pub returns-then-gathered-lt-GATHERED : goal.returns-then-gathered-lt-GATHERED
returns-then-gathered-lt-GATHERED c = one_narrow _ _ _ (omega arith) (omega arith) (omega arith)

pub gather-requires : goal.gather-requires
gather-requires c = (one_reads _ _ [] (omega arith) _ c.tep_in-tep.ensures (omega arith) (omega arith), refl)

pub returns : goal.returns
returns c = c.gather.ensures ∙ one_fed _ _ _ (omega arith) (omega arith) (omega arith)
