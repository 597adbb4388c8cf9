-- `pieces_frames::again` meets its contract.
use borrow.Author.Tests.{eq-eqb, ne_eqb}
use Rattle.pieces_frames.specs.Frames.{again_of}
use Rattle.pieces_frames.proofs.again.Goals as goal

pub returns-then-number-eq8 : goal.returns-then-number-eq8
unfolding again_of
returns-then-number-eq8 c = rw (eq-eqb _ _ c.if-number-eq8.true)

pub returns-then-number-eq10 : goal.returns-then-number-eq10
unfolding again_of
returns-then-number-eq10 c = rw (ne_eqb _ _ c.if-number-eq8.false, eq-eqb _ _ c.if-number-eq10.true)

pub returns : goal.returns
unfolding again_of
returns c = rw (ne_eqb _ _ c.if-number-eq8.false, ne_eqb _ _ c.if-number-eq10.false)
