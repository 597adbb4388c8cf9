-- `bytes_said` meets its contract: each answer is one case of `bytes_said`.
use Rattle.std.proofs.Common.{sym, ◌∙◌, length, arith}
use Rattle.std.proofs.lemmas.Grind.{common_steps}
use Rattle.text_hex.specs.HexLaws.{length_pairs, says_pairs, took_none, took_dash, took_pairs}
use Rattle.text_hex_reader.proofs.Digits.{says_refused}
use Rattle.text_hex_reader.proofs.bytes_said.Goals as goal

pub returns-then-same : goal.returns-then-same
returns-then-same c = let a = c.args in took_dash a.word.now a.into.now (sym c.same.ensures ∙ c.if-same.true)

pub returns-then-is_empty : goal.returns-then-is_empty
returns-then-is_empty c =
    let w = c.args.word.now in
    let s = c.args.into.now in
    took_none w s (says_refused w (length s) (sym c.same.ensures ∙ c.if-same.false) (λ h k m e. grind (arith, common_steps)))

pub take_pairs-requires : goal.take_pairs-requires
take_pairs-requires c = let w = c.args.word.now in let h = length_pairs w in (grind (arith, common_steps), grind (arith, common_steps), grind (arith, common_steps))

pub returns : goal.returns
returns c =
    let w = c.args.word.now in
    let s = c.args.into.now in
    let other = sym c.same.ensures ∙ c.if-same.false in
    took_pairs w s (says_pairs w (length s) other (grind (arith, common_steps)) (grind (arith, common_steps)) (grind (arith, common_steps)) (grind (arith, common_steps))) _ c.take_pairs.ensures
