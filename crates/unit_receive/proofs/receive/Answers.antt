-- `unit_receive::receive` meets its contract.
use Rattle.std.specs.Prelude.{◌≡◌, Err}
use Rattle.std.proofs.Common.{arith}
use Rattle.door.specs.Calls.{receive, outcome}
use Rattle.door.specs.Numbered.{lent_of}
use Rattle.unit.specs.Numbers.{doors_n}
use Rattle.unit_bytes.specs.Content.{unit_in}
use Rattle.pool.proofs.PlacedLaws.{doors_same, put_kept}
use Rattle.unit_step.specs.Stepping.{step_past}
use Rattle.unit_step.specs.InPlace.{step_looked, step_placed}
use Rattle.unit_receive.proofs.receive.Goals as goal

pub returns-then-door-ge-DOORS : goal.returns-then-door-ge-DOORS
unfolding doors_n lent_of
returns-then-door-ge-DOORS c =
    let a = c.args in
    (step_past (unit_in a.marks.now a.rows.now a.doors.now) a.door (receive a.syn a.ack a.area.now) (omega arith), doors_same a.door a.doors.now)

pub returns-in_err-received : goal.returns-in_err-received
unfolding doors_n outcome
returns-in_err-received c =
    let a = c.args in
    let out : c.from_residual.result ≡ Err c.in_err-received.field-0.0 = grind arith in
    (rw out (step_looked a.marks.now a.rows.now a.doors.now a.door (omega arith) _ c.position_at-position.ensures (receive a.syn a.ack a.area.now) _ _ c.in_err-received.ensures), doors_same a.door a.doors.now)

pub returns : goal.returns
unfolding doors_n outcome
returns c =
    let a = c.args in
    (step_placed a.marks.now a.rows.now a.doors.now a.door (omega arith) _ c.position_at-position.ensures (receive a.syn a.ack a.area.now) _ _ _ _ c.in_ok-received.ensures c.put_door.ensures, put_kept a.doors.now _ a.door _ c.put_door.ensures)
