-- `key_terms::half_stands` meets its contract.
use mathlib.Core.Path.{refl, ◌∙◌}
use native.Mathlib.Omega.{arith}
use Rattle.key_terms.proofs.Halves.{half_at}
use Rattle.key_terms.proofs.half_stands.Goals as goal

pub returns : goal.returns
returns c = c.stands_at.ensures ∙ half_at _ _ _ _ _ _ (omega arith) (omega arith) refl refl
