-- `unit_store::store` meets its contract.
use Rattle.std.specs.Prelude.{◌≡◌, Err}
use Rattle.std.proofs.Common.{arith}
use Rattle.door.specs.Door.{seen_of}
use Rattle.door.specs.Calls.{store, outcome}
use Rattle.door.specs.Numbered.{lent_of}
use Rattle.unit.specs.Numbers.{doors_n, rows_n}
use Rattle.unit_bytes.specs.Content.{unit_in}
use Rattle.pool.proofs.PlacedLaws.{doors_same, enacts_kept}
use Rattle.unit_step.specs.Stepping.{step_past}
use Rattle.unit_step.specs.InPlace.{step_enacted, step_untaken}
use Rattle.unit_store.proofs.store.Goals as goal

pub returns-then-door-ge-DOORS : goal.returns-then-door-ge-DOORS
unfolding doors_n lent_of
returns-then-door-ge-DOORS c =
    let a = c.args in
    (step_past (unit_in a.marks.now a.rows.now a.doors.now) a.door (store a.tep a.role a.identifier.now a.secret.now) (omega arith), doors_same a.door a.doors.now)

pub returns-in_err-added : goal.returns-in_err-added
unfolding doors_n rows_n outcome seen_of
returns-in_err-added c =
    let a = c.args in
    let free = c.lowest_unmarked-row in
    let out : c.from_residual.result ≡ Err c.in_err-added.field-0.0 = grind arith in
    (rw out (step_untaken a.marks.now a.rows.now a.doors.now a.door (omega arith) _ c.position_at-position.ensures (store a.tep a.role a.identifier.now a.secret.now) _ _ _ _ c.view_of-view.ensures.1 free.ensures.0 free.ensures.1 c.in_err-added.ensures.outcome), doors_same a.door a.doors.now)

pub returns : goal.returns
unfolding doors_n rows_n outcome
returns c =
    let a = c.args in
    let free = c.lowest_unmarked-row in
    (step_enacted a.marks.now a.rows.now a.doors.now a.door (omega arith) _ c.position_at-position.ensures (store a.tep a.role a.identifier.now a.secret.now) _ _ _ _ _ _ _ _ _ _ c.view_of-view.ensures.1 free.ensures.0 free.ensures.1 c.in_ok-added.ensures.outcome c.enacted.ensures, enacts_kept _ _ _ _ _ _ _ _ _ _ _ _ c.enacted.ensures)
