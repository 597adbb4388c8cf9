-- What a step leaves as it was, for any unit value: all rows but one at most, and, of the calls that only look, everything.
use Rattle.std.specs.Prelude.{ℕ, ◌≤◌, ◌<◌, ◌≡◌, ◌≢◌}
use Rattle.std.proofs.Common.{◌∙◌}
use mathlib.Core.List.{List, ◌∷◌}
use Rattle.std.proofs.Math.ListN.{get_or}
use Rattle.door.specs.Door.{no_session}
use Rattle.door.specs.Calls.{Ask, resend, result, count}
use Rattle.unit.specs.Numbers.{doors_n, rows_n}
use Rattle.unit.specs.Unit.{position_at, mine, lowest_free}
use Rattle.unit.specs.Marked.{mark_of}
use Rattle.unit.specs.Laws.Lists.{In}
use Rattle.unit.specs.declared.LinkUnit.{LinkUnit}

-- the row k that a call of door d takes or frees: no row at all, the lowest free one, which is not marked, or one that the door's own list names
pub data OneRow (u : LinkUnit) (d k : ℕ) : Type 0 where
  none : rows_n ≤ k → OneRow u d k
  taken : k ≡ lowest_free u → mark_of u k ≡ 0 → OneRow u d k
  freed : d < doors_n → In k (mine (position_at u d)) → OneRow u d k

-- every other row, and its mark, is as it was
pub record RowsStay (u after : LinkUnit) (d : ℕ) : Type 0 where
  pub row : ℕ
  pub which : OneRow u d row
  pub marks_stay : (i : ℕ) → i ≢ row → mark_of after i ≡ mark_of u i
  pub rows_stay : (i : ℕ) → i ≢ row → get_or after.rows i no_session ≡ get_or u.rows i no_session

-- the calls that only look
pub data Looks : Ask → Type 0 where
  resend_looks : (lent : List ℕ) → Looks (resend lent)
  result_looks : (lent : List ℕ) → Looks (result lent)
  count_looks : Looks count
