-- The number of a reader's refusal, and its position; 0 where nothing is refused.
use Rattle.std.specs.Prelude.{ℕ}
use Rattle.std.proofs.Math.Option.{Option, none, some}
use Rattle.pieces_layout.specs.Step.{Told, waiting, item, refused, short}

abbrev pub in_told : Told → ℕ
in_told waiting = 0
in_told (item x) = 0
in_told (refused n position) = n
in_told short = 5

abbrev pub position_in : Told → ℕ
position_in waiting = 0
position_in (item x) = 0
position_in (refused n position) = position
position_in short = 0

abbrev pub in_start : Option ℕ → ℕ
in_start none = 0
in_start (some n) = n
