-- `pieces_frames::stop` meets its contract.
use Rattle.pieces_frames.specs.HeaderWays.{stops_told}
use Rattle.pieces_frames.proofs.stop.Goals as goal

pub returns : goal.returns
returns c = stops_told _ _ _ c.requires c.set_numbers.ensures
