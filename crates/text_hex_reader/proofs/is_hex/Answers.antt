-- `is_hex` meets its contract: the loop's invariant is that the rest of the word decides.
use Rattle.std.proofs.Common.{arith, sym, ◌∙◌, get_or}
use Rattle.std.proofs.lemmas.Grind.{common_steps}
use Rattle.text_hex.specs.Hex.{hex_value}
use Rattle.text_hex.specs.HexLaws.{all_more, all_wrong, all_over}
use Rattle.text_hex_reader.proofs.Digits.{no_digit, a_digit}
use Rattle.text_hex_reader.proofs.is_hex.Goals as goal

pub returns-then-is_none : goal.returns-then-is_none
returns-then-is_none c =
    let l = c.loop-c in
    all_wrong c.args.word.now l.c-index (omega arith) (no_digit c.value.result (hex_value (get_or c.args.word.now l.c-index 0)) c.value.ensures.value (grind (arith, common_steps))) ∙ l.invariant

pub loop-c-preserved : goal.loop-c-preserved
loop-c-preserved c =
    let l = c.loop-c in
    sym (all_more c.args.word.now l.c-index (omega arith) (a_digit c.value.result (hex_value (get_or c.args.word.now l.c-index 0)) c.value.ensures.value c.value.ensures.digit (grind (arith, common_steps)))) ∙ l.invariant

pub returns : goal.returns
returns c = all_over c.args.word.now c.loop-c.c-index (omega arith) ∙ c.loop-c.invariant
