-- `option_writer::put_fresh` meets its contract. The loop's invariant: of the TEPs that were passed the fresh ones are written.
use lib.ListN.{take}
use Rattle.eno.specs.Session.{in_hand}
use Rattle.eno.specs.Option.{fresh_teps}
use Rattle.option_layout.specs.Puts.{Puts}
use Rattle.option_writer.proofs.put_fresh.Given as goal

abbrev pub invariant-loop-t : goal.invariant-loop-t
invariant-loop-t l = Puts l.initial.s l.at (fresh_teps (in_hand l.hand) (take l.t-index l.list)) l.s l.next
