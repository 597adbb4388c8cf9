-- `digit` meets its contract: each answer is one case of `hex_digit`.
use Rattle.std.proofs.Common.{◌≡◌, ◌+◌, ◌-◌, ◌∙◌, arith}
use Rattle.text_hex.specs.HexLaws.{digit_low, digit_high}
use Rattle.text_hex_writer.proofs.digit.Goals as goal

pub returns-then-n-lt10 : goal.returns-then-n-lt10
returns-then-n-lt10 c = digit_low _ (omega arith)

pub returns-else-n-lt10 : goal.returns-else-n-lt10
returns-else-n-lt10 c =
    let n = c.args.n in
    let e : 97 + (n - 10) ≡ 87 + n = omega arith in
    e ∙ digit_high n (omega arith)
