-- `host_pieces_numbers::nonce_place` meets its contract.
use native.Mathlib.Omega.{arith}
use Rattle.host_pieces_numbers.specs.Giving.{place_far, place_near}
use Rattle.host_pieces_numbers.proofs.nonce_place.Goals as goal

pub returns-then-count-gt255 : goal.returns-then-count-gt255
returns-then-count-gt255 c = place_far _ (omega arith)

pub returns : goal.returns
returns c = place_near _ (omega arith)
