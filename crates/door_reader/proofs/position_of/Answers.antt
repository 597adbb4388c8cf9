-- `door_reader::position_of` meets its contract.
use Rattle.unit_bytes.proofs.Laws.{read_position}
use Rattle.door_reader.proofs.position_of.Goals as goal

pub returns : goal.returns
returns c = read_position c.args.bytes _ _ _ _ _ _ _ c.part_at-3.ensures c.part_at-4.ensures c.part_at.ensures c.part_at-2.ensures c.is_set.ensures c.is_set-2.ensures c.is_set-3.ensures
