-- `marks::lowest_unmarked` meets its contract.
use native.Mathlib.Omega.{arith}
use borrow.Author.Rules.{rules}
use Rattle.unit.specs.Numbers.{rows_n, word_n, words_n}
use Rattle.marks.proofs.Words.{free_in_word, word_full, no_word}
use Rattle.marks.proofs.lowest_unmarked.Goals as goal

pub loop-word-init : goal.loop-word-init
unfolding rows_n word_n words_n
loop-word-init c = (search rules, omega arith, omega arith)

pub overflow_add-row : goal.overflow_add-row
unfolding rows_n word_n words_n
overflow_add-row c = omega (arith, c.loop-word.invariant.1)

pub overflow_add-result : goal.overflow_add-result
unfolding rows_n word_n words_n
overflow_add-result c = omega (arith, c.loop-word.invariant.1)

pub returns-then-marked-lt32 : goal.returns-then-marked-lt32
unfolding rows_n word_n words_n
returns-then-marked-lt32 c =
    let l = c.loop-word in
    (omega (arith, l.invariant.2, free_in_word c.args.words l.word-index _ (omega (arith, l.invariant.0)) c.trailing_marked-marked.ensures (omega arith)), l.invariant.0)

pub loop-word-preserved : goal.loop-word-preserved
unfolding rows_n word_n words_n
loop-word-preserved c =
    let l = c.loop-word in
    (l.invariant.0, omega (arith, l.invariant.1), omega (arith, l.invariant.2, word_full c.args.words l.word-index _ (omega (arith, l.invariant.0)) c.trailing_marked-marked.ensures (omega arith)))

pub returns : goal.returns
unfolding rows_n word_n words_n
returns c =
    let l = c.loop-word in
    (omega (arith, l.invariant.2, no_word c.args.words l.word-index (omega (arith, l.invariant.0))), l.invariant.0)
