-- `unit_bytes::record_of` meets its contract.
use Rattle.unit_bytes.proofs.Laws.{read_record}
use Rattle.unit_bytes.proofs.record_of.Goals as goal

pub returns : goal.returns
returns c = read_record c.args.row _ _ c.part_at.ensures c.part_at-2.ensures
