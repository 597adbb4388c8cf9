-- `door_writer::flag_over` meets its contract.
use mathlib.Core.Path.{◌≡◌, refl, ◌∙◌}
use mathlib.Core.Bool.{true}
use Prim.Native.Nat.{ℕ, zero, suc, max}
use native.Mathlib.Omega.{arith}
use Rattle.unit_bytes.specs.Content.{flag_of, flag_over}
use Rattle.unit_bytes.proofs.Laws.{over_empty}
use Rattle.door_writer.proofs.flag_over.Goals as goal

set_at_least : (o : ℕ) → max o 1 ≡ flag_over o true
unfolding flag_over flag_of
set_at_least zero = refl
set_at_least (suc n) = omega arith

pub returns-then-x : goal.returns-then-x
returns-then-x c = rw c.if-x.true (c.max.ensures ∙ set_at_least _)

pub returns-else-x : goal.returns-else-x
returns-else-x c = over_empty _ _ c.if-x.false
