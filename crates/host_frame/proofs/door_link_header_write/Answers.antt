-- `host_frame::door_link_header_write` meets its contract.
use Rattle.host_frame_numbers.specs.Giving.{gives_frame}
use Rattle.host_frame.proofs.door_link_header_write.Goals as goal

pub returns : goal.returns
returns c = gives_frame _ _ _ c.written_numbers.ensures c.write_header-told.ensures
