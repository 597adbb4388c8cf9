-- `sha256_block::scheduled` meets its contract.
use Rattle.std.specs.Prelude.{take, drop}
use Rattle.sha256_block.proofs.Schedule.{Sched}
use Rattle.sha256_block.proofs.scheduled.Given as goal

abbrev pub invariant-loop-t : goal.invariant-loop-t
invariant-loop-t l = Sched (take 64 (drop l.at l.m)) l.w l.t

abbrev pub invariant-loop-t-2 : goal.invariant-loop-t-2
invariant-loop-t-2 l = Sched (take 64 (drop l.at l.m)) l.w l.t
