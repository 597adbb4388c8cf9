-- `option_parts::put` meets its contract: one byte is written.
use Rattle.option_parts.proofs.put.Goals as goal

pub returns : goal.returns
returns c = c.copy.ensures
