-- `pool::erase` meets its contract.
use mathlib.Core.Path.{refl}
use Rattle.unit.specs.Numbers.{doors_n, rows_n, word_n, words_n}
use Rattle.unit_bytes.proofs.Whole.{erased}
use Rattle.pool.proofs.erase.Goals as goal

pub returns : goal.returns
unfolding doors_n rows_n word_n words_n
returns c = record { marks_zero = refl; rows_zero = refl; doors_zero = refl; empty = erased }
