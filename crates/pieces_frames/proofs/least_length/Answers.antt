-- `pieces_frames::least_length` meets its contract.
use Rattle.pieces_frames.specs.HeaderLaws.{least_zero, least_more}
use Rattle.pieces_frames.proofs.least_length.Goals as goal

pub returns-then-high-eq0 : goal.returns-then-high-eq0
returns-then-high-eq0 c = least_zero _ c.if-high-eq0.true

pub returns : goal.returns
returns c = least_more _ c.if-high-eq0.false _ c.wide.ensures
