-- Refusals by number (document 01, "Numbers given back"): a row is a test and its number, lowest first.
use Rattle.std.specs.Prelude.{ℕ, ◌<◌, ◌≡◌, List, [], ◌∷◌, Bool, true, false, cond, ◌&&◌, ◌||◌, eqb}
use Rattle.std.proofs.Math.Option.{Option, none, some}

-- the number of the first test that holds
unfoldable pub refusal : List (Bool × ℕ) → Option ℕ
refusal [] = none
refusal (t ∷ l) = cond t.0 (some t.1) (refusal l)

-- the row of a number applies
unfoldable pub marked : ℕ → List (Bool × ℕ) → Bool
marked n [] = false
marked n (t ∷ l) = t.0 && eqb t.1 n || marked n l

-- the numbers stand in their order, above n
abbrev pub Rising : ℕ → List (Bool × ℕ) → Type 0
Rising n [] = Unit {0}
Rising n (t ∷ l) = (n < t.1) × Rising t.1 l

-- n is the least number that applies
pub record Least (applies : ℕ → Bool) (n : ℕ) : Type 0 where
  pub this : applies n ≡ true
  pub none_below : (m : ℕ) → m < n → applies m ≡ false
