-- `take_pairs` meets its contract: the loop's invariant is that the first i bytes are put.
use Rattle.std.proofs.Common.{◌≡◌, ◌+◌, ◌*◌, sym, ◌∙◌, ap₂, arith, get_or, set}
use lib.ListN.{length-set}
use Rattle.text_hex.specs.Hex.{hex_value, pairs}
use Rattle.text_hex.specs.HexLaws.{all_at, pairs_at}
use Rattle.wire.proofs.CopyLoop.{copied_step, copied_done}
use Rattle.text_hex_reader.proofs.Digits.{digit_is}
use Rattle.text_hex_reader.proofs.take_pairs.Goals as goal

pub loop-i-preserved : goal.loop-i-preserved
loop-i-preserved c =
    let a = c.args in
    let l = c.loop-i in
    let p = c.requires in
    let w = a.word.now in
    let x = c.unwrap_or-high.result * 16 + c.unwrap_or-low.result in
    let z : l.i ≡ 0 + l.i = omega arith in
    let high = digit_is c.value.result (hex_value (get_or w (2 * l.i) 0)) c.unwrap_or-high.result c.value.ensures.value (all_at w (2 * l.i) p.0 (omega arith)) c.unwrap_or-high.ensures in
    let low = digit_is c.value-in-loop-i.result (hex_value (get_or w (2 * l.i + 1) 0)) c.unwrap_or-low.result c.value-in-loop-i.ensures.value (all_at w (2 * l.i + 1) p.0 (omega arith)) c.unwrap_or-low.ensures in
    let e : x ≡ get_or (pairs w) l.i 0 = ap₂ (λ m n. m * 16 + n) high low ∙ sym (pairs_at w l.i (omega arith)) in (
      length-set l.into l.i x ∙ l.invariant.0,
      ap₂ (set l.into) z e ∙ copied_step a.into.now 0 (pairs w) l.into l.i (omega arith) (omega arith) l.invariant.1,
    )

pub returns : goal.returns
returns c =
    let a = c.args in
    let l = c.loop-i in
    let p = c.requires in
    copied_done a.into.now 0 (pairs a.word.now) l.into l.i (omega arith) l.invariant.1 (omega arith) (omega arith)
