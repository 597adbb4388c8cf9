-- `collect` meets its contract: the loop's invariant is `Collecting`, and each way out of it is one of its laws. The measure is what is left of the chunk.
use Prim.Native.Nat.{◌-◌}
use lib.ListN.{length, take, drop}
use Rattle.text_lines.specs.Line.{line_of}
use Rattle.text_lines.specs.LineLaws.{Collecting}
use Rattle.text_lines.proofs.collect.Given as goal

abbrev pub invariant-loop-used : goal.invariant-loop-used
invariant-loop-used l = Collecting (line_of (length l.initial.line) (take l.before l.initial.line) l.long l.from (drop l.from l.chunk)) l.initial.line l.chunk l.used l.line l.kept l.too_long

abbrev pub decreases-loop-used : goal.decreases-loop-used
decreases-loop-used l = length l.chunk - l.used
