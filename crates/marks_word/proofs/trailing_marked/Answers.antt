-- `marks_word::trailing_marked` meets its contract.
use native.Mathlib.Omega.{arith}
use Rattle.unit.specs.Numbers.{word_n}
use Rattle.marks_word.proofs.Trailing.{trailing_free}
use Rattle.marks_word.proofs.trailing_marked.Goals as goal

pub returns : goal.returns
unfolding word_n
returns c = trailing_free 32 c.args.word (omega arith)
