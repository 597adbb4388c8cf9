-- `unreadable` meets its contract.
use mathlib.Core.Path.{refl}
use Rattle.judge_missed.proofs.unreadable.Goals as goal

pub returns : goal.returns
returns c = refl
