-- `door_data::kept_option` meets its contract.
use Rattle.door_data.proofs.Pasted.{pasted_kept}
use Rattle.door_data.proofs.kept_option.Goals as goal

pub returns : goal.returns
returns c = pasted_kept _ _ c.copy.ensures
