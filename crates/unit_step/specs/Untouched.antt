-- What a call leaves untouched of the unit's memory, byte by byte: for any content of the arrays' sizes, of a call that was carried out as its contract says.
use Rattle.std.specs.Prelude.{ℕ, ◌<◌, ◌≡◌, ◌≢◌, List, [], ◌∷◌, ◌++◌, get_or}
use Rattle.std.proofs.Common.{◌∙◌}
use Rattle.door.specs.Outcome.{Reply}
use Rattle.door.specs.Calls.{Ask}
use Rattle.unit.specs.Numbers.{rows_n}
use Rattle.unit.specs.Run.{on, step}
use Rattle.unit.specs.Marks.{marks_in}
use Rattle.unit_bytes.specs.Content.{unit_in}
use Rattle.unit_bytes.specs.Tells.{Sized}
use Rattle.pool.specs.Placed.{Erased, DoorsKept}
use Rattle.unit_step.specs.Stepping.{step_as}
use Rattle.unit_step.specs.StepRows.{OneRow}

-- A call of door d was carried out as its contract says. The contract's two parts: reply x, lent buffer and unit afterwards are the step's; and of the doors' bytes the door's own alone change.
pub record CarriedOut (d : ℕ) (a : Ask) (x : Reply) (lent : List ℕ) (marks marks' : List ℕ) (rows rows' doors doors' : List (List ℕ)) : Type 0 where
  pub is_step : step_as x lent (unit_in marks' rows' doors') ≡ step (unit_in marks rows doors) (on d a)
  pub doors_kept : DoorsKept d doors doors'

-- row i as it was: its mark and every byte
pub record RowKept (marks marks' : List ℕ) (rows rows' : List (List ℕ)) (i : ℕ) : Type 0 where
  pub mark : get_or (marks_in marks') i 0 ≡ get_or (marks_in marks) i 0
  pub bytes : get_or rows' i [] ≡ get_or rows i []

-- no byte of another door, and no row but one
pub record OthersKept (d : ℕ) (marks marks' : List ℕ) (rows rows' doors doors' : List (List ℕ)) : Type 0 where
  pub doors_kept : (e : ℕ) → e ≢ d → get_or doors' e [] ≡ get_or doors e []
  pub row : ℕ
  pub which : OneRow (unit_in marks rows doors) d row
  pub rows_kept : (i : ℕ) → i < rows_n → i ≢ row → RowKept marks marks' rows rows' i

-- contents from `erase` on: erased, whatever stood there, or one call more
pub data Reached : (marks : List ℕ) (rows doors : List (List ℕ)) → Type 0 where
  erased : {marks : List ℕ} {rows doors : List (List ℕ)} → Erased marks rows doors → Reached marks rows doors
  called : {marks marks' : List ℕ} {rows rows' doors doors' : List (List ℕ)} {d : ℕ} {a : Ask} {x : Reply} {lent : List ℕ} → Reached marks rows doors → Sized marks' rows' doors'
      → CarriedOut d a x lent marks marks' rows rows' doors doors' → Reached marks' rows' doors'
