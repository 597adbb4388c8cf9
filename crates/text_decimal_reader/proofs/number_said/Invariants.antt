-- `number_said` meets its contract: the loop's invariant is `Reading`, the digits before a place make the value.
use Rattle.text_decimal.specs.DecimalLaws.{Reading}
use Rattle.text_decimal_reader.proofs.number_said.Given as goal

abbrev pub invariant-loop-c : goal.invariant-loop-c
invariant-loop-c l = Reading l.word l.c-index l.value
