-- `pool_doors::put_door` meets its contract.
use native.Mathlib.Omega.{arith}
use borrow.Author.Rules.{rules}
use Rattle.unit.specs.Numbers.{doors_n}
use Rattle.pool.proofs.PlacedLaws.{put_past, put_in}
use Rattle.pool_doors.proofs.put_door.Goals as goal

pub returns-then-d-ge-DOORS : goal.returns-then-d-ge-DOORS
unfolding doors_n
returns-then-d-ge-DOORS c = let a = c.args in put_past a.doors.now a.d _ (omega arith)

pub returns : goal.returns
unfolding doors_n
returns c =
    let a = c.args in
    put_in a.doors.now a.d _ a.position (omega arith) (search rules) (search rules) (search rules)
