-- `row_list_longer::with_record` meets its contract.
use native.Mathlib.Omega.{arith}
use Rattle.door.specs.Numbers.{each_n}
use Rattle.unit.specs.Numbers.{rows_n}
use Rattle.row_list.proofs.Listings.{no_place, one_more}
use Rattle.row_list_longer.proofs.with_record.Goals as goal

pub returns-then-n-ge-EACH : goal.returns-then-n-ge-EACH
unfolding each_n rows_n
returns-then-n-ge-EACH c = no_place _ _ _ c.then-n-ge-EACH.either

pub returns : goal.returns
unfolding each_n rows_n
returns c = one_more _ _ _ (omega arith) _ (omega arith) (omega arith)
