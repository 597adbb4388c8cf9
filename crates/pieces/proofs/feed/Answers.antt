-- `pieces::feed` meets its contract.
use native.Mathlib.Omega.{arith}
use Rattle.pieces.specs.Stages.{by_short, by_init1, by_init2, by_frames}
use Rattle.pieces.proofs.feed.Goals as goal

pub returns-then-numbers-lt4 : goal.returns-then-numbers-lt4
returns-then-numbers-lt4 c = by_short _ _ _ (omega arith)

pub returns-then-stage-eq4 : goal.returns-then-stage-eq4
returns-then-stage-eq4 c = by_init1 _ _ _ _ (omega arith) c.feed_init1.ensures

pub returns-then-stage-eq5 : goal.returns-then-stage-eq5
returns-then-stage-eq5 c = by_init2 _ _ _ _ (omega arith) c.feed_init2.ensures

pub returns : goal.returns
returns c = by_frames _ _ _ _ (λ e. omega arith) (λ e. omega arith) (c.feed_frames.ensures _)
