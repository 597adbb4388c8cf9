-- `init1_writer::put_ciphers` meets its contract. The loop's invariant: the first i ciphers are written.
use Rattle.init1_writer.proofs.Listing.{Put}
use Rattle.init1_writer.proofs.put_ciphers.Given as goal

abbrev pub invariant-loop-i : goal.invariant-loop-i
invariant-loop-i l = Put l.initial.s l.ciphers l.at l.s l.i
