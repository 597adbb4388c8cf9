-- `init1_writer::put_ciphers` meets its contract. The loop's invariant: the first i ciphers are written.
use Rattle.std.proofs.Common.{arith, sym}
use Rattle.wire.specs.ByteLaws.{pasted_over}
use Rattle.init_layout.proofs.LayoutLaws.{length_ciphers}
use Rattle.init1_writer.proofs.Listing.{put_start, put_next, put_end}
use Rattle.init1_writer.proofs.put_ciphers.Goals as goal
use Rattle.init1_writer.proofs.put_ciphers.Goals.{then-s-at-via-then-s-at, then-s-at-via-else-s-at+then-s-at-2}

pub returns-then-s-at : goal.returns-then-s-at
returns-then-s-at c =
    let n = length_ciphers c.args.ciphers.now in
    elim c.then-s-at.branch [
      | then-s-at-via-then-s-at w ↦ sym (pasted_over _ _ _ (omega (arith, n)))
      | then-s-at-via-else-s-at+then-s-at-2 w ↦ sym (pasted_over _ _ _ (omega (arith, n)))
    ]

pub loop-i-init : goal.loop-i-init
loop-i-init c = put_start _ _ _

pub loop-i-preserved : goal.loop-i-preserved
loop-i-preserved c =
    let l = c.loop-i in
    put_next c.args.s.now c.args.ciphers.now _ _ l.i l.invariant (omega arith) (omega arith) _ c.write_u16.ensures

pub returns : goal.returns
returns c = put_end _ _ _ _ _ c.loop-i.invariant (omega arith)
