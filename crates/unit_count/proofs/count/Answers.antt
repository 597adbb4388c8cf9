-- `unit_count::count` meets its contract.
use Rattle.unit_step.specs.InPlace.{step_counted}
use Rattle.door.specs.Door.{seen_of}
use Rattle.door.specs.Calls.{count, outcome}
use Rattle.unit_step.specs.Stepping.{step_past}
use Rattle.unit_bytes.specs.Content.{unit_in}
use Rattle.unit.specs.Numbers.{doors_n}
use Rattle.door.specs.Numbered.{lent_of}
use native.Mathlib.Omega.{arith}
use borrow.Author.Rules.{rules}
use Rattle.unit_count.proofs.count.Goals as goal

pub returns-then-door-ge-DOORS : goal.returns-then-door-ge-DOORS
unfolding doors_n lent_of
returns-then-door-ge-DOORS c =
    let a = c.args in
    step_past (unit_in a.marks.now a.rows.now a.doors.now) a.door (count) (omega arith)

pub returns : goal.returns
unfolding doors_n outcome seen_of
returns c =
    let a = c.args in
    step_counted a.marks.now a.rows.now a.doors.now a.door (omega arith) _ c.position_at-position.ensures count _ _ _ c.view_of-view.ensures.1 (search rules)
