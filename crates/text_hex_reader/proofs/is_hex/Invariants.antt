-- `is_hex` meets its contract: the loop's invariant is that the rest of the word decides.
use Rattle.std.proofs.Common.{◌≡◌, drop}
use Rattle.text_hex.specs.Hex.{all_hex}
use Rattle.text_hex_reader.proofs.is_hex.Given as goal

abbrev pub invariant-loop-c : goal.invariant-loop-c
invariant-loop-c l = all_hex (drop l.c-index l.word) ≡ all_hex l.word
