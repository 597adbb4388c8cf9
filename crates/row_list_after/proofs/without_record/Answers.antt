-- `row_list_after::without_record` meets its contract.
use mathlib.Core.Path.{refl}
use native.Mathlib.Omega.{arith}
use Rattle.door.specs.Numbers.{each_n}
use Rattle.row_list.proofs.Listings.{not_listed, one_less}
use Rattle.row_list_after.proofs.without_record.Goals as goal

pub returns-then-n-j : goal.returns-then-n-j
returns-then-n-j c = not_listed _ _ _ (omega arith)

pub bounds-numbers-j : goal.bounds-numbers-j
unfolding each_n
bounds-numbers-j c = omega arith

pub overflow_cast-result : goal.overflow_cast-result
unfolding each_n
overflow_cast-result c = omega arith

pub returns : goal.returns
returns c = one_less _ _ _ _ _ _ (omega arith) refl (omega arith) c.closed_up-left.ensures
