-- `marks::lowest_unmarked` meets its contract.
use mathlib.Core.Path.{◌≡◌}
use Prim.Native.Nat.{◌+◌, ◌*◌}
use lib.ListN.{drop, length}
use Rattle.unit.specs.Numbers.{word_n, words_n}
use Rattle.unit.specs.Marks.{marks_in}
use Rattle.unit.specs.Unit.{first_free}
use Rattle.marks.proofs.lowest_unmarked.Given as goal

abbrev pub invariant-loop-word : goal.invariant-loop-word
invariant-loop-word l = (length l.fn.words ≡ words_n) × (l.row ≡ word_n * l.word-index) × (first_free (marks_in l.fn.words) ≡ l.row + first_free (marks_in (drop l.word-index l.fn.words)))
