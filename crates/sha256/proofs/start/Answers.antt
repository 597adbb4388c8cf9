-- `sha256::start` meets its contract.
use mathlib.Core.Path.{refl}
use Rattle.hash_layout.specs.Constants.{initial}
use Rattle.sha256.proofs.Holding.{begun}
use Rattle.sha256.proofs.start.Goals as goal

pub returns : goal.returns
unfolding initial
returns c = begun _ refl
