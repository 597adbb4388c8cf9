-- `value` meets its contract: a letter's value, counted from that of a.
use Rattle.std.proofs.Common.{◌≡◌, ◌+◌, ◌-◌, ◌∙◌, arith}
use Rattle.text_hex.specs.HexLaws.{value_letter}
use Rattle.text_hex_digits.proofs.value.Goals as goal

pub returns-in-97-to-102-clause-value : goal.returns-in-97-to-102-clause-value
returns-in-97-to-102-clause-value c =
    let e : c.args.c - 97 + 10 ≡ c.args.c - 87 = omega arith in
    e ∙ value_letter c.args.c (omega arith) (omega arith)
