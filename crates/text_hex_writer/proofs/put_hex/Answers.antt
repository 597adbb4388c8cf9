-- `put_hex` meets its contract: the loop's invariant is that the digits of the first bytes are put.
use Rattle.std.proofs.Common.{◌≡◌, ◌+◌, ◌-◌, ◌*◌, ◌<◌, refl, sym, ◌∙◌, ap, length, take, arith}
use Rattle.std.proofs.lemmas.Grind.{common_steps}
use lib.Seq.{take-length}
use Rattle.wire.specs.Bytes.{pasted}
use Rattle.wire.specs.ByteLaws.{length_pasted}
use Rattle.text_put.specs.Answers.{place_after}
use Rattle.text_hex.specs.Hex.{hex_digits, hex_text}
use Rattle.text_put.specs.Laws.{after_fits, after_over, pasted_none}
use Rattle.text_hex.specs.HexLaws.{length_digits, text_digits, text_dash, written_more, pasted_nothing}
use Rattle.text_hex_writer.proofs.put_hex.Goals as goal

pub returns-then-is_empty : goal.returns-then-is_empty
returns-then-is_empty c =
    let a = c.args in
    let p = c.put.ensures in
    let e = text_dash a.bytes.now (grind (arith, common_steps)) in
    record { written = p.written ∙ ap (pasted a.out.now a.at) e; next = p.next ∙ ap (place_after a.out.now a.at) e }

pub returns-then-out-at : goal.returns-then-out-at
returns-then-out-at c =
    let l = c.args.bytes.now in
    let some : 0 < length l = grind (arith, common_steps) in
    let n : length (hex_text l) ≡ 2 * length l = ap length (text_digits l some) ∙ length_digits l in
    record { written = pasted_none _ _ _ (grind arith); next = after_over _ _ _ (grind arith) }

pub loop-byte-init : goal.loop-byte-init
unfolding hex_digits
loop-byte-init c = let a = c.args in (omega arith, refl, pasted_nothing a.out.now a.at (grind arith))

pub overflow_add-end : goal.overflow_add-end
overflow_add-end c = grind arith

pub loop-byte-preserved : goal.loop-byte-preserved
loop-byte-preserved c =
    let a = c.args in
    let l = c.loop-byte in
    let p = c.put_pair in (
      omega arith,
      ap length p.ensures ∙ (length_pasted l.out l.end _ ∙ l.invariant.1),
      p.ensures ∙ written_more a.out.now a.at a.bytes.now l.out l.byte-index l.end (omega arith) (grind arith) l.invariant.0 l.invariant.2,
    )

pub returns : goal.returns
returns c =
    let a = c.args in
    let l = c.loop-byte in
    let s = a.bytes.now in
    let some : 0 < length s = grind (arith, common_steps) in
    let z : l.byte-index ≡ length s = omega arith in
    let t = text_digits s some in
    let n : length (hex_text s) ≡ 2 * length s = ap length t ∙ length_digits s in
    let e : hex_digits (take l.byte-index s) ≡ hex_text s = ap (λ k. hex_digits (take k s)) z ∙ (ap hex_digits (take-length s) ∙ sym t) in
    let q : l.end ≡ a.at + length (hex_text s) = omega arith in
    record { written = l.invariant.2 ∙ ap (pasted a.out.now a.at) e; next = q ∙ after_fits a.out.now a.at (hex_text s) (grind arith) }
