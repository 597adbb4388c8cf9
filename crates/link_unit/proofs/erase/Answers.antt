-- `link_unit::erase` meets its contract.
use mathlib.Core.Path.{ap}
use mathlib.Core.List.{[]}
use Rattle.door.specs.Outcome.{done}
use Rattle.unit.specs.Run.{step}
use Rattle.unit.specs.declared.LinkUnit.{LinkUnit}
use Rattle.unit_step.specs.Stepping.{step_as}
use Rattle.link_unit.proofs.erase.Goals as goal

pub returns : goal.returns
unfolding step
returns c = (ap (λ (u : LinkUnit). step_as done [] u) c.erase.ensures.empty, c.erase.ensures)
