-- `pool_doors::position_at` meets its contract.
use native.Mathlib.Omega.{arith}
use Rattle.unit.specs.Numbers.{doors_n}
use Rattle.pool.proofs.PlacedLaws.{from_past, from_in}
use Rattle.pool_doors.proofs.position_at.Goals as goal

pub returns-then-d-ge-DOORS : goal.returns-then-d-ge-DOORS
unfolding doors_n
returns-then-d-ge-DOORS c = let a = c.args in from_past a.doors.now a.d _ (omega arith) c.position_of.ensures

pub returns : goal.returns
unfolding doors_n
returns c = let a = c.args in from_in a.doors.now a.d _ (omega arith) c.position_of-2.ensures
