-- `unit_answer::answer` meets its contract.
use Rattle.std.specs.Prelude.{◌≡◌, Err}
use Rattle.std.proofs.Common.{arith, refl}
use Rattle.door.specs.Door.{seen_of}
use Rattle.door.specs.Calls.{answer, outcome}
use Rattle.door.specs.Numbered.{lent_of}
use Rattle.unit.specs.Numbers.{doors_n, rows_n}
use Rattle.unit_bytes.specs.Content.{unit_in}
use Rattle.pool.proofs.PlacedLaws.{doors_same, enacts_kept}
use Rattle.unit_step.specs.Stepping.{step_past}
use Rattle.unit_step.specs.InPlace.{step_counted, step_taken}
use Rattle.unit_answer.proofs.answer.Goals as goal

pub returns-then-door-ge-DOORS : goal.returns-then-door-ge-DOORS
unfolding doors_n lent_of
returns-then-door-ge-DOORS c =
    let a = c.args in
    (step_past (unit_in a.marks.now a.rows.now a.doors.now) a.door (answer a.area.now a.aware a.mandatory a.teps.now a.nonce.now a.out.now) (omega arith), doors_same a.door a.doors.now)

pub returns-in_err-opened : goal.returns-in_err-opened
unfolding doors_n outcome seen_of
returns-in_err-opened c =
    let a = c.args in
    let out : c.from_residual.result ≡ Err c.in_err-opened.field-0.0 = grind arith in
    (rw out (step_counted a.marks.now a.rows.now a.doors.now a.door (omega arith) _ c.position_at-position.ensures (answer a.area.now a.aware a.mandatory a.teps.now a.nonce.now a.out.now) _ _ _ c.view_of-view.ensures.1 c.in_err-opened.ensures), doors_same a.door a.doors.now)

pub returns : goal.returns
unfolding doors_n rows_n outcome
returns c =
    let a = c.args in
    (step_taken a.marks.now a.rows.now a.doors.now a.door (omega arith) _ c.position_at-position.ensures (answer a.area.now a.aware a.mandatory a.teps.now a.nonce.now a.out.now) _ _ _ _ _ _ _ _ _ _ c.no_session-zeros.ensures c.view_of-view.ensures.1 c.in_ok-opened.ensures refl c.enacted.ensures, enacts_kept _ _ _ _ _ _ _ _ _ _ _ _ c.enacted.ensures)
