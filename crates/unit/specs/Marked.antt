-- The marks and the doors' lists: after every list of calls from the empty unit a row is marked exactly when some door lists it; and, for every unit value, which row a record takes and which mark is cleared.
use Rattle.std.specs.Prelude.{◌≡◌, ◌↔◌, ◌∷◌, ℕ, ◌≤◌, ◌<◌, get_or, set}
use Rattle.std.proofs.Common.{◌∙◌}
use Rattle.eno.specs.declared.SessionRecord.{SessionRecord}
use Rattle.door.specs.Outcome.{add}
use Rattle.door.specs.declared.Door.{Door}
use Rattle.unit.specs.Numbers.{doors_n}
use Rattle.unit.specs.Marks.{marks_in}
use Rattle.unit.specs.Unit.{position_at, mine, lowest_free, enact}
use Rattle.unit.specs.Laws.Lists.{In}
use Rattle.unit.specs.declared.LinkUnit.{LinkUnit}

-- the mark of row i; 0 past the last row
abbrev pub mark_of : LinkUnit → ℕ → ℕ
mark_of u i = get_or (marks_in u.marks) i 0

-- row i is in use: a door lists it
pub record InUse (u : LinkUnit) (i : ℕ) : Type 0 where
  pub by : ℕ
  pub ours : by < doors_n
  pub listed : In i (mine (position_at u by))

-- for every unit value: a record that is added takes the lowest row that is not marked, and that row's mark alone is set
pub record TakesLowest (u : LinkUnit) (d : ℕ) (l : Door) (r : SessionRecord) : Type 0 where
  pub unmarked : mark_of u (lowest_free u) ≡ 0
  pub lower_marked : (k : ℕ) → k < lowest_free u → mark_of u k ≡ 1
  pub marked : marks_in (enact u d l (add r)).marks ≡ set (marks_in u.marks) (lowest_free u) 1
  pub stored : (enact u d l (add r)).rows ≡ set u.rows (lowest_free u) r
