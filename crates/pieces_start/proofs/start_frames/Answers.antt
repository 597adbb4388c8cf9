-- `pieces_start::start_frames` meets its contract.
use native.Mathlib.Omega.{arith}
use Rattle.pieces_start.specs.Starting.{frames_short, frames_started}
use Rattle.pieces_start.proofs.start_frames.Goals as goal

pub returns-then-numbers-lt4 : goal.returns-then-numbers-lt4
returns-then-numbers-lt4 c = frames_short _ (omega arith)

pub returns : goal.returns
returns c = frames_started _ (omega arith) _ c.set_numbers.ensures
