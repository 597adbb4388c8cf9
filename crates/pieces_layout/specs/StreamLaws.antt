-- How the parse of a stream ends: it waits with all bytes taken, or is refused at one of them. Assumes nothing.
use Rattle.std.specs.Prelude.{ℕ, ◌+◌, ◌-◌, ◌≤◌, ◌<◌, ◌≡◌, ◌∷◌, ◌++◌, ◌||◌}
use Rattle.std.proofs.Common.{◌∙◌}
use Rattle.pieces_layout.specs.Stream.{Ending, waits, stops}

-- of bytes from o to e
abbrev pub Counts : (o e : ℕ) → Ending → Type 0
Counts o e (waits n) = n ≡ e
Counts o e (stops n k) = (o ≤ k) × (k < e)
