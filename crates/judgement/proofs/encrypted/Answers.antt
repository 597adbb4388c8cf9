-- `encrypted` meets its contract.
use Rattle.judgement.proofs.Steps.{written}
use Rattle.judgement.proofs.encrypted.Goals as goal

pub returns : goal.returns
returns c la lb = written _ _ _ _ _ la lb _ _ c.copy.ensures c.copy-2.ensures
