-- `pool_rows::record_at` meets its contract.
use mathlib.Core.Path.{◌≡◌, ◌∙◌, ap}
use mathlib.Core.List.{[]}
use Prim.Native.Nat.{ℕ}
use native.Mathlib.Omega.{arith}
use lib.ListN.{get_or}
use Rattle.unit.specs.Numbers.{rows_n}
use Rattle.unit_bytes.specs.Content.{record_in}
use Rattle.pool.proofs.Enacting.{record_past, record_there}
use Rattle.pool_rows.proofs.record_at.Goals as goal

pub returns-then-row-ge-ROWS : goal.returns-then-row-ge-ROWS
unfolding rows_n
returns-then-row-ge-ROWS c = let a = c.args in record_past a.rows.now a.number _ (omega (arith, c.wide-row.ensures)) c.no_session.ensures

pub returns : goal.returns
unfolding rows_n
returns c =
    let a = c.args in
    let w = c.wide-row in
    let read : c.record_of.result ≡ record_in (get_or a.rows.now w.result []) = c.record_of.ensures in
    record_there a.rows.now a.number _ (omega (arith, w.ensures)) (read ∙ ap (λ (k : ℕ). record_in (get_or a.rows.now k [])) w.ensures)
