-- `host_frame_plaintext::door_link_plaintext_write` meets its contract.
use Rattle.host_frame_numbers.specs.Giving.{gives_frame}
use Rattle.host_frame_plaintext.proofs.door_link_plaintext_write.Goals as goal

pub returns : goal.returns
returns c = gives_frame _ _ _ c.plaintext_written_numbers.ensures c.write_plaintext-told.ensures
