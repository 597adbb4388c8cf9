-- `option_at` meets its contract: each answer is one case of `option_at`.
use Prim.Native.Nat.{◌+◌}
use native.Mathlib.Omega.{arith}
use Rattle.eno.proofs.Laws.Area.{option_end, option_zero, option_one, option_cut, option_short, option_over, option_long}
use Rattle.area_walk.proofs.option_at.Goals as goal

pub returns-then-area-i : goal.returns-then-area-i
returns-then-area-i c = option_end _ _ (omega arith)

pub returns-then-kind-eq0 : goal.returns-then-kind-eq0
returns-then-kind-eq0 c = option_zero _ _ (omega arith) (omega arith)

pub returns-then-kind-eq1 : goal.returns-then-kind-eq1
returns-then-kind-eq1 c = option_one _ _ (omega arith) (omega arith)

pub returns-then-area-i-lt2 : goal.returns-then-area-i-lt2
returns-then-area-i-lt2 c = option_cut _ _ (omega arith) (omega arith) (omega arith) (omega arith)

pub overflow_cast-len : goal.overflow_cast-len
overflow_cast-len c = omega (arith, c.shared_slice_known-2-1.given (c.args.i + 1))

pub returns-then-len-lt2 : goal.returns-then-len-lt2
returns-then-len-lt2 c = option_short _ _ (omega arith) (omega arith) (omega arith) (omega arith)

pub returns-then-area-i-2 : goal.returns-then-area-i-2
returns-then-area-i-2 c = option_over _ _ (omega arith) (omega arith) (omega arith) (omega arith) (omega arith)

pub returns : goal.returns
returns c = option_long _ _ (omega arith) (omega arith) (omega arith) (omega arith) (omega arith)
