-- `pool_effects::enacted` meets its contract.
use mathlib.Core.Path.{refl, sym, ◌∙◌}
use native.Mathlib.Omega.{arith}
use borrow.Author.Rules.{rules}
use Rattle.std.specs.Prelude.{Some, None}
use Rattle.unit.specs.Numbers.{doors_n}
use Rattle.unit_bytes.specs.Laws.{SizedRecord}
use Rattle.pool.proofs.PlacedLaws.{row_marked, row_unmarked, enacts_past, enacts_fit, enacts_unfit}
use Rattle.pool.specs.Placed.{PutRow}
use Rattle.row_list.specs.Listed.{marked_row, marked_used}
use Rattle.pool_effects.proofs.enacted.Goals as goal
use Rattle.pool_effects.proofs.enacted.Goals.{in-Some-mark, in_default-mark}

pub returns-then-d-ge-DOORS : goal.returns-then-d-ge-DOORS
unfolding doors_n
returns-then-d-ge-DOORS c = let a = c.args in enacts_past a.marks.now a.rows.now a.doors.now a.d a.position a.free a.after a.change a.added (omega arith)

pub returns-after-next : goal.returns-after-next
unfolding doors_n
returns-after-next c =
    let a = c.args in
    let s = c.session_after-session in
    let n = c.in-Some.next in
    let j = c.match-next in
    let sized : SizedRecord s.result = record { identifier_size = search rules; secret_size = search rules } in
    let row : PutRow a.marks.now j.marks a.rows.now j.rows (marked_row n.mark) (marked_used n.mark) s.result =
    elim j.branch [
      | in-Some-mark w ↦ rw (w.marks-is, w.rows-is) (row_marked _ _ _ _ n.mark w.in-Some-mark.mark s.result w.in-Some-mark.is w.put_row.ensures)
      | in_default-mark w ↦ rw (w.marks-is, w.rows-is) (row_unmarked a.marks.now a.rows.now n.mark s.result w.in_default-mark.is sized)
    ] in
    enacts_fit a.marks.now j.marks a.rows.now j.rows a.doors.now _ a.d a.position a.free a.after a.change a.added s.result (Some n) (omega arith) (sym c.in-Some.is ∙ c.list_after.ensures.0) s.ensures
    c.list_after.ensures.1 row n refl c.put_door.ensures

pub returns-in_default : goal.returns-in_default
unfolding doors_n
returns-in_default c =
    let a = c.args in
    let s = c.session_after-session in
    let sized : SizedRecord s.result = record { identifier_size = search rules; secret_size = search rules } in
    enacts_unfit a.marks.now _ a.rows.now _ a.doors.now _ a.d a.position a.free a.after a.change a.added s.result None (omega arith) (sym c.in_default.is ∙ c.list_after.ensures.0) s.ensures
    c.list_after.ensures.1 (row_unmarked a.marks.now a.rows.now None s.result refl sized) refl refl
