-- How many records a door may hold.
use Rattle.std.specs.Prelude.{ℕ}

unfoldable pub each_n : ℕ
each_n = 4
