-- `door_search::is_expecting` meets its contract.
use mathlib.Core.Path.{refl}
use native.Mathlib.Omega.{arith}
use Rattle.door_search.proofs.Half.{expects_other, expects_first, expects_second}
use Rattle.door_search.proofs.is_expecting.Goals as goal

pub returns-then-session-t : goal.returns-then-session-t
returns-then-session-t c = expects_other _ _ _ _ (omega arith)

pub slice_bounds-stands_at-end : goal.slice_bounds-stands_at-end
slice_bounds-stands_at-end c = omega (arith, c.well_formed.0.1.1.1.1.0.1.0.1)

pub returns-then-session-eq0 : goal.returns-then-session-eq0
returns-then-session-eq0 c = expects_second _ _ _ _ (omega arith) (c.well_formed.0.1.1.1.1.0.1.0.1) _ _ c.stands_at.ensures (omega arith) refl

pub slice_bounds-stands_at-end-2 : goal.slice_bounds-stands_at-end-2
slice_bounds-stands_at-end-2 c = omega (arith, c.well_formed.0.1.1.1.1.0.1.0.1)

pub returns : goal.returns
returns c = expects_first _ _ _ _ (omega arith) (c.well_formed.0.1.1.1.1.0.1.0.1) _ _ c.stands_at-2.ensures (omega arith) refl
