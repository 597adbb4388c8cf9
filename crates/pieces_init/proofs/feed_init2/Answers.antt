-- `pieces_init::feed_init2` meets its contract.
use mathlib.Core.Path.{refl, ◌∙◌}
use mathlib.Core.List.{[]}
use mathlib.Core.Bool.{true}
use native.Mathlib.Omega.{arith}
use Rattle.pieces_init.specs.InitWays.{no_stage, other_stage, other_two, two_narrow, two_reads, two_fed}
use Rattle.pieces_init.proofs.feed_init2.Goals as goal

pub returns-then-numbers-lt4 : goal.returns-then-numbers-lt4
returns-then-numbers-lt4 c = no_stage _ _ _ true 5 (other_two _ _ _) c.waiting.result c.waiting.ensures (omega arith) (λ q. omega arith)

pub returns-then-stage-ne5 : goal.returns-then-stage-ne5
returns-then-stage-ne5 c = other_stage _ _ _ true 5 (other_two _ _ _) c.waiting-then-stage-ne5.result c.waiting-then-stage-ne5.ensures c.if-stage-ne5.true

pub returns-then-gathered-lt-GATHERED : goal.returns-then-gathered-lt-GATHERED
returns-then-gathered-lt-GATHERED c = two_narrow _ _ _ (omega arith) (omega arith) (omega arith)

pub gather-requires : goal.gather-requires
gather-requires c = (two_reads _ _ [] (omega arith) _ c.tep_in-tep.ensures (omega arith) (omega arith), refl)

pub returns : goal.returns
returns c = c.gather.ensures ∙ two_fed _ _ _ (omega arith) (omega arith) (omega arith)
