-- The numbers of the unit, with the two facts about them. A raise changes the lines of doors_n and rows_n, and the two array lengths of src/lib.rt.
use Rattle.std.specs.Prelude.{◌≡◌, refl, ◌*◌, ◌/◌, ◌≤◌}
use Rattle.std.proofs.Common.{lit≤}
use Rattle.door.specs.Numbers.{each_n}
use Rattle.unit.specs.Numbers.{doors_n, rows_n, word_n, words_n}

pub enough : each_n * doors_n ≤ rows_n
unfolding each_n doors_n rows_n
enough = lit≤ tt

-- no word has a bit that is no row's
pub whole : words_n * word_n ≡ rows_n
unfolding rows_n word_n words_n
whole = refl
