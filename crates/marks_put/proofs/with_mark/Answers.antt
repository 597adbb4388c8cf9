-- `marks_put::with_mark` meets its contract.
use mathlib.Core.Path.{refl}
use native.Mathlib.Omega.{arith}
use borrow.Author.Rules.{rules}
use Rattle.unit.specs.Numbers.{word_n}
use Rattle.unit.specs.Marks.{mark_for}
use Rattle.marks_put.proofs.Places.{past_words, in_word}
use Rattle.marks_put.proofs.with_mark.Goals as goal

pub with_bit-requires : goal.with_bit-requires
unfolding word_n
with_bit-requires c = omega arith

pub returns-then-at-lt-WORDS : goal.returns-then-at-lt-WORDS
unfolding word_n
returns-then-at-lt-WORDS c = let a = c.args in in_word a.words a.row (mark_for a.used) _ _ _ refl refl c.with_bit.ensures

pub returns-else-at-lt-WORDS : goal.returns-else-at-lt-WORDS
unfolding word_n
returns-else-at-lt-WORDS c = let a = c.args in past_words a.words a.row (mark_for a.used) (search rules)
