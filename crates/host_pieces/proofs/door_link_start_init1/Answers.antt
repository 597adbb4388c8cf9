-- `host_pieces::door_link_start_init1` meets its contract.
use Rattle.host_pieces_numbers.specs.Giving.{gives_start}
use Rattle.host_pieces.proofs.door_link_start_init1.Goals as goal

pub returns : goal.returns
returns c = gives_start _ c.start_init1-told.result _ _ _ c.start_numbers.ensures c.start_init1-told.ensures
