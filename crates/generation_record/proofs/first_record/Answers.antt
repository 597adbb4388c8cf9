-- `generation_record::first_record` meets its contract.
use mathlib.Core.Path.{refl}
use Rattle.generation.specs.Steps.{first}
use Rattle.generation_record.proofs.first_record.Goals as goal

pub returns : goal.returns
unfolding first
returns c = refl
