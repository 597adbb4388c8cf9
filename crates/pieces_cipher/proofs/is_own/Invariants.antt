-- `pieces_cipher::is_own` meets its contract. The loop's invariant: the first ciphers are others, and whether one is the cipher hangs on those left.
use Rattle.pieces_cipher.proofs.Own.{Looked}
use Rattle.pieces_cipher.proofs.is_own.Given as goal

abbrev pub invariant-loop-i : goal.invariant-loop-i
invariant-loop-i l = Looked l.gathered l.count l.cipher l.i
