-- What a piece comes to whose first bytes were taken by a reader that waits.
use Rattle.std.specs.Prelude.{ℕ, zero, suc, ◌+◌}
use Rattle.pieces_layout.specs.Step.{Told, waiting, item, refused, short, Taken, taken_as}
use Rattle.pieces_layout.specs.declared.PieceSays.TheVariants as s
use Rattle.pieces_layout.specs.declared.Fed.{Fed}

-- the answer of a reader that waits, with so many bytes used
abbrev pub waiting_of : (used : ℕ) → Fed
waiting_of n = record { used = n; says = s.Waiting }

-- so many bytes more were used, but none beside a refusal
abbrev pub more_by : (k used : ℕ) → Told → ℕ
more_by k n waiting = k + n
more_by k n (item x) = k + n
more_by k n (refused m p) = 0
more_by k n short = 0

unfoldable pub later : ℕ → Taken → Taken
later zero t = t
later (suc k) t = taken_as t.reader (more_by (suc k) t.used t.told) t.told
