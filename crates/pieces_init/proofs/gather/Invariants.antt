-- `pieces_init::gather` meets its contract.
use Rattle.pieces_init.specs.InitWays.{Gathered}
use Rattle.pieces_init.proofs.gather.Given as goal

abbrev pub invariant-loop-i : goal.invariant-loop-i
invariant-loop-i l = Gathered l.two l.tep l.initial.numbers l.initial.gathered l.piece l.numbers l.gathered l.n l.i
