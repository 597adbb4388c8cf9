-- A reader whose numbers are set: its position and what it has come to. Assumes nothing.
use Rattle.std.specs.Prelude.{◌≤◌, ◌≡◌, ◌&&◌, ◌||◌}
use Rattle.std.proofs.Common.{◌∙◌}
use Rattle.std.proofs.Math.Bool.{true}
use Rattle.std.proofs.Math.ListN.{length}
use Rattle.pieces_layout.specs.Reader.{Reader, gathered_n, state_of, is_init}

-- the lent memory is as long as the reader asks
pub record Room (r : Reader) : Type 0 where
  pub four : 4 ≤ length r.numbers
  pub wide : is_init (state_of r) ≡ true → gathered_n ≤ length r.gathered
