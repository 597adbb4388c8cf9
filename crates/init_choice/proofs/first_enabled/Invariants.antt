-- `init_choice::first_enabled` meets its contract. The loop's invariant: the first i ciphers are not enabled, and the first enabled one is among those left.
use Rattle.init_layout.specs.Reading.{is_enabled}
use Rattle.init_choice.proofs.Scanning.{Passed}
use Rattle.init_choice.proofs.first_enabled.Given as goal

abbrev pub invariant-loop-i : goal.invariant-loop-i
invariant-loop-i l = Passed (is_enabled l.enabled) l.s 9 l.i-end l.i
