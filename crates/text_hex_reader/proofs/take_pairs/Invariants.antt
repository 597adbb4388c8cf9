-- `take_pairs` meets its contract: the loop's invariant is that the first i bytes are put.
use Rattle.std.proofs.Common.{◌≡◌, length}
use lib.Seq.{paste}
use Rattle.text_hex.specs.Hex.{pairs}
use Rattle.text_hex_reader.proofs.take_pairs.Given as goal

abbrev pub invariant-loop-i : goal.invariant-loop-i
invariant-loop-i l = (length l.into ≡ length l.initial.into) × (l.into ≡ paste l.initial.into 0 (pairs l.word) l.i)
