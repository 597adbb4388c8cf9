-- `init_voids::has_void` meets its contract. The loop's invariant: the first i ciphers are not 0000, and whether one is hangs on those left.
use Rattle.init_voids.proofs.Voids.{Looked}
use Rattle.init_voids.proofs.has_void.Given as goal

abbrev pub invariant-loop : goal.invariant-loop
invariant-loop l = Looked l.s l.at l.count l.counter l.next
