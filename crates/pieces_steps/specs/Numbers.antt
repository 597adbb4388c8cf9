-- The four numbers of a reader, set at once.
use Rattle.std.specs.Prelude.{ℕ, List, cond, ltb, length, set}
use Rattle.pieces_layout.specs.Reader.{numbers_n}

-- all four, of numbers that are at least four
unfoldable pub numbers_as : List ℕ → (position first second stage : ℕ) → List ℕ
numbers_as w p a b n = cond (ltb (length w) numbers_n) w (set (set (set (set w 0 p) 1 a) 2 b) 3 n)
