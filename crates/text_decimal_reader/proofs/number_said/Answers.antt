-- `number_said` meets its contract: the loop's invariant is `Reading`, the digits before a place make the value.
use Rattle.std.proofs.Common.{◌≡◌, arith, sym, ◌∙◌, Option, None}
use Rattle.std.proofs.lemmas.Grind.{common_steps}
use Rattle.text_decimal.specs.Decimal.{number_said}
use Rattle.text_decimal.specs.DecimalLaws.{said_none, said_leading, reading_more, reading_wrong, reading_over}
use Rattle.text_decimal_reader.proofs.Digits.{reading_word}
use Rattle.text_decimal_reader.proofs.number_said.Goals as goal

pub returns-then-is_empty : goal.returns-then-is_empty
returns-then-is_empty c = grind (arith, common_steps, said_none, said_leading)

pub loop-c-init : goal.loop-c-init
loop-c-init c = reading_word c.args.word.now (grind (arith, common_steps)) (λ h e. grind (arith, common_steps))

pub returns-in_err-value : goal.returns-in_err-value
returns-in_err-value c =
    let h = reading_wrong _ _ _ c.loop-c.invariant (omega arith) (sym c.with_digit.ensures ∙ c.in_err-value.was) in
    c.from_residual.ensures ∙ h

pub loop-c-preserved : goal.loop-c-preserved
loop-c-preserved c = reading_more _ _ _ c.loop-c.invariant _ (omega arith) (sym c.with_digit.ensures ∙ c.in_ok-value.was)

pub returns : goal.returns
returns c = reading_over _ _ _ c.loop-c.invariant (omega arith)
