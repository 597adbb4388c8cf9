-- `unit_close::close` meets its contract.
use Rattle.unit_step.specs.InPlace.{step_placed}
use Rattle.door.specs.Calls.{close, outcome}
use Rattle.pool.proofs.PlacedLaws.{doors_same, put_kept}
use Rattle.unit_step.specs.Stepping.{step_past}
use Rattle.unit_bytes.specs.Content.{unit_in}
use Rattle.unit.specs.Numbers.{doors_n}
use Rattle.door.specs.Numbered.{lent_of}
use native.Mathlib.Omega.{arith}
use Rattle.unit_close.proofs.close.Goals as goal

pub returns-then-door-ge-DOORS : goal.returns-then-door-ge-DOORS
unfolding doors_n lent_of
returns-then-door-ge-DOORS c =
    let a = c.args in
    (step_past (unit_in a.marks.now a.rows.now a.doors.now) a.door (close) (omega arith), doors_same a.door a.doors.now)

pub returns : goal.returns
unfolding doors_n outcome
returns c =
    let a = c.args in
    (step_placed a.marks.now a.rows.now a.doors.now a.door (omega arith) _ c.position_at-position.ensures (close) _ _ _ _ c.close.ensures c.put_door.ensures, put_kept a.doors.now _ a.door _ c.put_door.ensures)
