-- `pool_rows::put_row` meets its contract.
use native.Mathlib.Omega.{arith}
use Rattle.unit.specs.Numbers.{rows_n}
use Rattle.pool.proofs.PlacedLaws.{row_past, row_in_place}
use Rattle.pool_rows.proofs.put_row.Goals as goal

pub returns-then-row-ge-ROWS : goal.returns-then-row-ge-ROWS
unfolding rows_n
returns-then-row-ge-ROWS c = let a = c.args in row_past a.marks.now a.rows.now a.row a.used _ _ (omega arith) c.row_of-bytes.ensures.0 c.row_of-bytes.ensures.1

pub returns : goal.returns
unfolding rows_n
returns c =
    let a = c.args in
    let put = c.row_of-bytes.ensures in
    row_in_place a.marks.now _ a.rows.now a.row a.used _ _ (omega arith) c.with_mark-after.ensures put.0 put.1
