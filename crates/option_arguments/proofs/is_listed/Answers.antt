-- `option_arguments::is_listed` meets its contract. The loop's invariant: t is listed if it is in what follows the first i.
use Rattle.std.proofs.Common.{arith}
use Rattle.option_arguments.proofs.Listing.{listed_here, listed_later, listed_nowhere}
use Rattle.option_arguments.proofs.is_listed.Goals as goal

pub returns-then-listed-t : goal.returns-then-listed-t
returns-then-listed-t c =
    let l = c.loop-listed in
    listed_here _ _ l.listed-index l.invariant (omega arith) c.if-listed-t.true

pub loop-listed-preserved : goal.loop-listed-preserved
loop-listed-preserved c =
    let l = c.loop-listed in
    listed_later _ _ l.listed-index l.invariant (omega arith) c.if-listed-t.false

pub returns : goal.returns
returns c =
    let l = c.loop-listed in
    listed_nowhere _ _ l.listed-index l.invariant (omega arith)
