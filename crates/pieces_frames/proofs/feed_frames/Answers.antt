-- `feed_frames` meets its contract.
use mathlib.Core.Path.{refl, ◌∙◌, ap}
use native.Mathlib.Omega.{arith}
use Rattle.pieces_layout.specs.Answers.{taken_of}
use Rattle.pieces_frames.specs.StageLaws.{frames_short, state_body, frames_body, frames_again, frames_init1, frames_init2, frames_empty, frames_third, frames_second, frames_first}
use Rattle.pieces_frames.proofs.feed_frames.Goals as goal

pub returns-then-stage-eq4 : goal.returns-then-stage-eq4
returns-then-stage-eq4 c g = let w = c.args.numbers.now in let p = c.args.piece.now in ap (λ f. taken_of f w g) c.waiting.ensures ∙ frames_init1 w g (omega arith) p c.if-stage-eq4.true

pub returns-then-stage-eq3 : goal.returns-then-stage-eq3
returns-then-stage-eq3 c g = let w = c.args.numbers.now in let p = c.args.piece.now in let e = state_body w g (omega arith) c.if-stage-eq3.true in c.body_at.ensures g refl e ∙ frames_body w g (omega arith) p _ _ e

pub returns-then-stage-eq2 : goal.returns-then-stage-eq2
returns-then-stage-eq2 c g = let w = c.args.numbers.now in let p = c.args.piece.now in frames_third w g (omega arith) p c.if-piece-eq0.false c.third.result _ _ _ c.if-stage-eq2.true c.low_byte-control.ensures c.low_byte-high.ensures c.third.ensures

pub returns-then-numbers-lt4 : goal.returns-then-numbers-lt4
returns-then-numbers-lt4 c g = let w = c.args.numbers.now in let p = c.args.piece.now in frames_short w g p (omega arith)

pub returns-then-piece-eq0 : goal.returns-then-piece-eq0
returns-then-piece-eq0 c g = let w = c.args.numbers.now in let p = c.args.piece.now in ap (λ f. taken_of f w g) c.waiting-then-piece-eq0.ensures ∙ frames_empty w g (omega arith) p (omega arith) c.if-stage-eq3.false c.if-stage-eq4.false c.if-stage-eq5.false c.if-stage-eq6.false

pub returns-then-stage-eq1 : goal.returns-then-stage-eq1
returns-then-stage-eq1 c g = let w = c.args.numbers.now in let p = c.args.piece.now in frames_second w g (omega arith) p c.if-piece-eq0.false c.second.result _ _ c.if-stage-eq1.true c.low_byte-control-then-stage-eq1.ensures c.second.ensures

pub returns-then-stage-eq6 : goal.returns-then-stage-eq6
returns-then-stage-eq6 c g = let w = c.args.numbers.now in let p = c.args.piece.now in ap (λ f. taken_of f w g) c.again.ensures ∙ frames_again w g (omega arith) p c.if-stage-eq6.true

pub returns : goal.returns
returns c g = let w = c.args.numbers.now in let p = c.args.piece.now in frames_first w g (omega arith) p c.if-piece-eq0.false c.first.result _ c.if-stage-eq1.false c.if-stage-eq2.false c.if-stage-eq3.false c.if-stage-eq4.false c.if-stage-eq5.false c.if-stage-eq6.false c.first.ensures

pub returns-then-stage-eq5 : goal.returns-then-stage-eq5
returns-then-stage-eq5 c g = let w = c.args.numbers.now in let p = c.args.piece.now in ap (λ f. taken_of f w g) c.waiting-then-stage-eq5.ensures ∙ frames_init2 w g (omega arith) p c.if-stage-eq5.true
