-- `collect` meets its contract: the loop's invariant is `Collecting`, and each way out of it is one of its laws. The measure is what is left of the chunk.
use mathlib.Core.Path.{◌∙◌, ap}
use native.Mathlib.Omega.{arith}
use Rattle.text_lines.specs.Line.{longer}
use Rattle.text_lines.specs.Answers.{collected, collects}
use Rattle.text_lines.specs.LineLaws.{counted, collecting_start, collecting_more, collecting_line, collecting_end, collecting_bytes}
use Rattle.text_lines.proofs.collect.Goals as goal

pub loop-used-init : goal.loop-used-init
loop-used-init c = let a = c.args in collecting_start a.line.now a.chunk.now a.from a.before a.long c.min-kept.result c.min-kept.ensures

pub bounds-chunk-used : goal.bounds-chunk-used
bounds-chunk-used c = omega arith

pub overflow_add-used : goal.overflow_add-used
overflow_add-used c = omega arith

pub shape_of-line-then-byte-eq10 : goal.shape_of-line-then-byte-eq10
shape_of-line-then-byte-eq10 c = c.loop-used.invariant.same

pub one_longer-too_long-requires : goal.one_longer-too_long-requires
one_longer-too_long-requires c = tt

pub push-kept-requires : goal.push-kept-requires
push-kept-requires c = let v = c.loop-used.invariant in omega (arith, v.same, v.within)

pub loop-used-smaller : goal.loop-used-smaller
loop-used-smaller c = omega arith

pub shape_of-line : goal.shape_of-line
shape_of-line c = c.loop-used.invariant.same

pub returns : goal.returns
unfolding collected
returns c =
    let a = c.args in
    let l = c.loop-used in
    collects a.chunk.now a.from a.line.now a.before a.long l.line l.kept l.too_long _ _
    (collecting_end _ a.line.now a.chunk.now l.used l.line l.kept l.too_long l.invariant (omega arith))
    (counted _ a.line.now a.chunk.now l.used l.line l.kept l.too_long l.invariant)
    (collecting_bytes _ a.line.now a.chunk.now l.used l.line l.kept l.too_long l.invariant)

pub returns-then-byte-eq10 : goal.returns-then-byte-eq10
unfolding collected
returns-then-byte-eq10 c =
    let a = c.args in
    let l = c.loop-used in
    collects a.chunk.now a.from a.line.now a.before a.long l.line l.kept l.too_long _ _
    (collecting_line _ a.line.now a.chunk.now l.used l.line l.kept l.too_long l.invariant (omega arith) (omega arith))
    (counted _ a.line.now a.chunk.now l.used l.line l.kept l.too_long l.invariant)
    (collecting_bytes _ a.line.now a.chunk.now l.used l.line l.kept l.too_long l.invariant)

pub loop-used-preserved : goal.loop-used-preserved
loop-used-preserved c =
    let a = c.args in
    let l = c.loop-used in
    collecting_more _ a.line.now a.chunk.now l.used l.line l.kept l.too_long l.invariant (omega arith) (omega arith) _
    (c.one_longer-too_long.ensures ∙ ap (λ m. longer m l.kept l.too_long) l.invariant.same) _ _ c.push-kept.ensures
