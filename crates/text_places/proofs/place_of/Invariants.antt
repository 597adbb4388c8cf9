-- `place_of` meets its contract: the loop's invariant is that the search from here finds the same place.
use Rattle.std.proofs.Common.{◌≡◌}
use Rattle.text_places.specs.Word.{place_of}
use Rattle.text_places.proofs.place_of.Given as goal

abbrev pub invariant-loop-i : goal.invariant-loop-i
invariant-loop-i l = place_of l.byte l.s l.i ≡ place_of l.byte l.s l.at
