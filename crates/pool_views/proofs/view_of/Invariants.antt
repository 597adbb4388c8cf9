-- `pool_views::view_of` meets its contract.
use mathlib.Core.Path.{◌≡◌}
use Rattle.unit_bytes.specs.Content.{rows_in}
use Rattle.pool.specs.Placed.{gathered}
use Rattle.pool_views.proofs.view_of.Given as goal

abbrev pub invariant-loop-i : goal.invariant-loop-i
invariant-loop-i l = l.held ≡ gathered (rows_in l.rows) l.position.rows l.i
