-- `unit_result::result` meets its contract.
use Rattle.door.specs.Answers.{secret_beside}
use Rattle.door.specs.Outcome.{Outcome}
use Rattle.unit.specs.Run.{Step}
use mathlib.Core.Path.{ap, sym, ◌∙◌}
use Rattle.unit_step.specs.InPlace.{step_looked}
use Rattle.door.specs.Calls.{result, outcome}
use Rattle.unit_step.specs.Stepping.{step_past}
use Rattle.unit_bytes.specs.Content.{unit_in}
use Rattle.unit.specs.Numbers.{doors_n}
use Rattle.door.specs.Numbered.{lent_of}
use native.Mathlib.Omega.{arith}
use Rattle.unit_result.proofs.result.Goals as goal

pub returns-then-door-ge-DOORS : goal.returns-then-door-ge-DOORS
unfolding doors_n lent_of
returns-then-door-ge-DOORS c =
    let a = c.args in
    let e = step_past (unit_in a.marks.now a.rows.now a.doors.now) a.door (result a.out.now) (omega arith) in
    (e, ap (λ (s : Step). secret_beside s.told.reply) e)

pub returns : goal.returns
unfolding doors_n outcome
returns c =
    let a = c.args in
    let told = c.result.ensures in
    let e = step_looked a.marks.now a.rows.now a.doors.now a.door (omega arith) _ c.position_at-position.ensures (result a.out.now) _ _ told.told in
    (e, told.secret ∙ ap (λ (o : Outcome). secret_beside o.reply) (sym told.told) ∙ ap (λ (s : Step). secret_beside s.told.reply) e)
