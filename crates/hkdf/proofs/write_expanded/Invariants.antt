-- `hkdf::write_expanded` meets its contract.
use Prim.Native.Nat.{◌-◌}
use Rattle.hkdf.proofs.Blocks.{Out}
use Rattle.hkdf.proofs.write_expanded.Given as goal

abbrev pub invariant-loop-at : goal.invariant-loop-at
invariant-loop-at l = Out l.prk l.info l.size l.initial.out l.out l.t l.n l.at

abbrev pub decreases-loop-at : goal.decreases-loop-at
decreases-loop-at l = l.size - l.at
