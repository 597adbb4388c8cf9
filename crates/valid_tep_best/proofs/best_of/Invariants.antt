-- `best_of` meets its contract: the loop's invariant is `Chosen`.
use Rattle.eno.specs.Session.{in_hand}
use Rattle.valid_tep_best.proofs.Choosing.{Chosen}
use Rattle.valid_tep_best.proofs.best_of.Given as goal

abbrev pub invariant-loop-t : goal.invariant-loop-t
invariant-loop-t l = Chosen l.a l.b (in_hand l.hand) l.own_is_b l.own l.peer l.best l.t
