-- `option_parts::sent_half` meets its contract.
use mathlib.Core.Path.{refl}
use native.Mathlib.Omega.{arith}
use Rattle.option_layout.specs.PartLaws.{first_sent, second_sent}
use Rattle.option_parts.proofs.sent_half.Goals as goal

pub slice_bounds-copy-end-then-session-eq0 : goal.slice_bounds-copy-end-then-session-eq0
slice_bounds-copy-end-then-session-eq0 c = omega (arith, c.well_formed.0.1.1.1.1.0.1.0.1)

pub returns-then-session-eq0 : goal.returns-then-session-eq0
returns-then-session-eq0 c = first_sent _ (c.well_formed.0.1.1.1.1.0.1.0.1) _ _ refl (omega arith) c.copy.ensures

pub slice_bounds-copy-end-3 : goal.slice_bounds-copy-end-3
slice_bounds-copy-end-3 c = omega (arith, c.well_formed.0.1.1.1.1.0.1.0.1)

pub returns : goal.returns
returns c = second_sent _ (c.well_formed.0.1.1.1.1.0.1.0.1) _ _ refl (λ e. omega arith) c.copy-2.ensures
