-- Nothing is lost: what is read, written again, is the same bytes, and two contents that say the same unit are the same bytes where flags are 0 or 1. Assumes nothing.
use Rattle.std.specs.Prelude.{ℕ, ◌+◌, ◌≤◌, ◌<◌, ◌≡◌, ◌⊎◌, length}
use Rattle.std.proofs.Common.{◌∙◌}
use mathlib.Core.List.{List, [], ◌∷◌, ◌++◌}
use Rattle.std.proofs.Math.ListN.{get_or}
use Rattle.unit.specs.Numbers.{doors_n, rows_n, words_n}
use Rattle.unit_bytes.specs.Layout.{row_size, door_size, mandatory_at, resumed_at, held_at}

-- the flags of a door's bytes are 0 or 1
pub record Tidy (b : List ℕ) : Type 0 where
  pub mandatory : get_or b mandatory_at 0 ≤ 1
  pub resumed : get_or b resumed_at 0 ≤ 1
  pub held : get_or b held_at 0 ≤ 1

-- the flags that are written: each 0, 1 or the byte that stood there
pub record FlagsOver (o b : List ℕ) : Type 0 where
  pub mandatory_from : (get_or b mandatory_at 0 ≡ 0) ⊎ ((get_or b mandatory_at 0 ≡ 1) ⊎ (get_or b mandatory_at 0 ≡ get_or o mandatory_at 0))
  pub resumed_from : (get_or b resumed_at 0 ≡ 0) ⊎ ((get_or b resumed_at 0 ≡ 1) ⊎ (get_or b resumed_at 0 ≡ get_or o resumed_at 0))
  pub held_from : (get_or b held_at 0 ≡ 0) ⊎ ((get_or b held_at 0 ≡ 1) ⊎ (get_or b held_at 0 ≡ get_or o held_at 0))

-- arrays of the unit's sizes
pub record Sized (marks : List ℕ) (rows doors : List (List ℕ)) : Type 0 where
  pub all_marks : length marks ≡ words_n
  pub all_rows : length rows ≡ rows_n
  pub all_doors : length doors ≡ doors_n
  pub row_bytes : (i : ℕ) → i < rows_n → length (get_or rows i []) ≡ row_size
  pub door_bytes : (i : ℕ) → i < doors_n → length (get_or doors i []) ≡ door_size

-- the flags of all doors are 0 or 1
pub record AllTidy (doors : List (List ℕ)) : Type 0 where
  pub each : (i : ℕ) → i < doors_n → Tidy (get_or doors i [])

-- every byte is the same
pub record Same (marks marks' : List ℕ) (rows rows' doors doors' : List (List ℕ)) : Type 0 where
  pub marks_same : marks ≡ marks'
  pub rows_same : rows ≡ rows'
  pub doors_same : doors ≡ doors'
