-- Laws of resumption data: it has 9 to 17 bytes, which lie within its option. Assumes nothing.
use Rattle.std.specs.Prelude.{ℕ, ◌+◌, ◌≤◌, List, length}

-- 9 to 17 bytes at a place of an option
pub record DataFits (o : List ℕ) (start len : ℕ) : Type 0 where
  pub nine : 9 ≤ len
  pub most : len ≤ 17
  pub within : start + len ≤ length o
