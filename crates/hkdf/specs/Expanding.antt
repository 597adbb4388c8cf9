-- What the steps of an expansion may take for granted, and how many bytes the last T gives. Private to this crate's functions.
use Rattle.std.specs.Prelude.{ℕ, ◌+◌, ◌≤◌, ◌<◌, ◌^◌, ◌≡◌, List, cond, ltb, length}

-- the tests of the call have been passed
pub record Fits (prk info : List ℕ) (size : ℕ) (out : List ℕ) : Type 0 where
  pub key : length prk ≡ 32
  pub room : size ≤ length out
  pub most : size ≤ 8160
  pub first : 0 < size → 65 + length info < 2 ^ 61
  pub more : 32 < size → 97 + length info < 2 ^ 61

-- the lesser of n and a hash length
unfoldable pub least_of : ℕ → ℕ
least_of n = cond (ltb 32 n) 32 n
