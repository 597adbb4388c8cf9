-- The invariant of the unit: whose each row is, which the marks agree with; what an effect of a door does to each door's records; and that a row is free while a door holds fewer than its number.
use Rattle.std.specs.Prelude.{◌≡◌, ◌≢◌, length, get_or}
use Rattle.std.proofs.Common.{◌∙◌}
use mathlib.Core.List.{List, ◌∷◌, ◌++◌, map}
use Prim.Native.Nat.{ℕ, suc, ◌+◌, ◌-◌, ◌*◌, ◌≤◌, ◌<◌}
use Rattle.std.proofs.Math.ListN.{set}
use Rattle.door.specs.Numbers.{each_n}
use Rattle.door.specs.Door.{no_session}
use Rattle.door.specs.Outcome.{Effect, keep, add, remove}
use Rattle.unit.specs.Numbers.{doors_n, rows_n, words_n}
use Rattle.unit.specs.Marks.{marks_in}
use Rattle.unit.specs.Unit.{position_at, count_of, mine, lowest_free}
use Rattle.unit.specs.Laws.Pool.{Own, bit, in_use, in_hold}
use Rattle.unit.specs.Laws.Owned.{Listed}
use Rattle.unit.specs.declared.Position.{Position}
use Rattle.unit.specs.declared.LinkUnit.{LinkUnit}

-- what holds of one door: it lists rows of its own, none twice, at most its number
pub record Sound (owners : List ℕ) (d : ℕ) (x : Position) : Type 0 where
  pub size : length x.rows ≡ each_n
  pub most : x.count ≤ each_n
  pub own : Own owners d (mine x)

-- What holds of the unit. Whose each row is, 0 for nobody's and d + 1 for door d's, is a list of the invariant alone: the unit has the marks, which agree with it
pub record Inv (u : LinkUnit) : Type 0 where
  pub owners : List ℕ
  pub agree : marks_in u.marks ≡ map bit owners
  pub words_size : length u.marks ≡ words_n
  pub rows_size : length u.rows ≡ rows_n
  pub doors_size : length u.doors ≡ doors_n
  pub door : (d : ℕ) → d < doors_n → Sound owners d (position_at u d)
  -- as many rows are in use as the doors list
  pub used : in_use owners ≡ in_hold u.doors
  -- each row is nobody's, and then zeros, or a door's, which lists it
  pub ours : (i : ℕ) → get_or owners i 0 ≤ doors_n
  pub zeros : (i : ℕ) → get_or owners i 0 ≡ 0 → get_or u.rows i no_session ≡ no_session
  pub listed : (d : ℕ) → d < doors_n → Listed owners d (mine (position_at u d))

-- whose the rows are after an effect
unfoldable pub owners_after : List ℕ → ℕ → ℕ → Position → Effect → List ℕ
owners_after owners free d x keep = owners
owners_after owners free d x (add r) = set owners free (suc d)
owners_after owners free d x (remove j) = set owners (get_or (mine x) j 0) 0

-- what an effect asks of the unit
abbrev pub Fits : LinkUnit → ℕ → Effect → Type 0
Fits u d keep = Unit {0}
Fits u d (add r) = (count_of (position_at u d) < each_n) × (lowest_free u < rows_n)
Fits u d (remove j) = j < count_of (position_at u d)
