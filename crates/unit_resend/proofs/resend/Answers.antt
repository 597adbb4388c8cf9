-- `unit_resend::resend` meets its contract.
use Rattle.unit_step.specs.InPlace.{step_looked}
use Rattle.door.specs.Calls.{resend, outcome}
use Rattle.unit_step.specs.Stepping.{step_past}
use Rattle.unit_bytes.specs.Content.{unit_in}
use Rattle.unit.specs.Numbers.{doors_n}
use Rattle.door.specs.Numbered.{lent_of}
use native.Mathlib.Omega.{arith}
use borrow.Author.Rules.{rules}
use Rattle.unit_resend.proofs.resend.Goals as goal

pub returns-then-door-ge-DOORS : goal.returns-then-door-ge-DOORS
unfolding doors_n lent_of
returns-then-door-ge-DOORS c =
    let a = c.args in
    step_past (unit_in a.marks.now a.rows.now a.doors.now) a.door (resend a.out.now) (omega arith)

pub returns : goal.returns
unfolding doors_n outcome
returns c =
    let a = c.args in
    step_looked a.marks.now a.rows.now a.doors.now a.door (omega arith) _ c.position_at-position.ensures (resend a.out.now) _ _ (search rules)
