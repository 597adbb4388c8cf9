-- `host_unit::door_link_unit_size` meets its contract.
use mathlib.Core.Path.{refl}
use Rattle.unit.specs.Numbers.{doors_n, rows_n, word_n, words_n}
use Rattle.host_unit.proofs.door_link_unit_size.Goals as goal

pub returns : goal.returns
unfolding doors_n rows_n word_n words_n
returns c = refl
