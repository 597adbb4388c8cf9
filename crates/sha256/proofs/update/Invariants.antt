-- `sha256::update` meets its contract.
use Prim.Native.Nat.{◌+◌, ◌-◌, ◌≤◌}
use mathlib.Core.Path.{◌≡◌}
use lib.ListN.{length, take}
use Rattle.sha256.specs.Running.{Adds}
use Rattle.sha256.proofs.update.Given as goal

abbrev pub invariant-loop-i : goal.invariant-loop-i
invariant-loop-i l = (l.i ≤ length l.part) × (length l.buf ≡ 64) × (l.r.len ≡ l.initial.r.len + l.i) × Adds l.initial.r l.initial.buf l.r l.buf (take l.i l.part)

abbrev pub decreases-loop-i : goal.decreases-loop-i
decreases-loop-i l = length l.part - l.i
