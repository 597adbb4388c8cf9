-- An option as a door keeps it.
use Rattle.std.specs.Prelude.{ℕ, List, cond, leb, length, replicate}
use Rattle.door.specs.Door.{kept}

-- zeros behind its bytes; zeros alone where there are more than 40
unfoldable pub kept_option : List ℕ → List ℕ
kept_option o = cond (leb (length o) 40) (kept o) (replicate 40 0)
