-- `wire_reader::bytes_from` meets its contract: the first k bytes are read.
use Rattle.std.proofs.Common.{◌≡◌, ℕ, suc, ◌+◌, List, ◌∷◌, [], ◌++◌, ap, ap₂, sym, ◌∙◌, arith, refl}
use Rattle.std.proofs.Math.ListN.{length-replicate}
use native.Mathlib.Numerals.{add-one}
use lib.ListN.{length-set, take}
use lib.Seq.{take-suc-set, take_all}
use Rattle.wire.specs.Bytes.{bytes_from}
use Rattle.wire.specs.ByteLaws.{bytes_from_snoc}
use Rattle.wire_reader.proofs.bytes_from.Goals as goal

pub loop-k-init : goal.loop-k-init
unfolding bytes_from
loop-k-init g c = (length-replicate g.row.N 0, refl)

pub loop-k-preserved : goal.loop-k-preserved
loop-k-preserved g c =
    let a = c.args in
    let l = c.loop-k in
    let next : take (suc l.k) (lib.ListN.set l.bytes l.k c.byte_at.result) ≡ bytes_from (suc l.k) a.s.now a.at =
    take-suc-set l.bytes l.k c.byte_at.result (omega (arith, l.invariant.0))
    ∙ (ap₂ (λ (p : List ℕ) (x : ℕ). p ++ (x ∷ [])) l.invariant.1 c.byte_at.ensures ∙ sym (bytes_from_snoc l.k a.s.now a.at)) in
    (length-set l.bytes l.k c.byte_at.result ∙ l.invariant.0, rw add-one next)

pub returns : goal.returns
returns g c =
    let l = c.loop-k in
    let whole : l.k ≡ g.row.N = omega arith in
    sym (take_all l.k l.bytes (omega (arith, l.invariant.0))) ∙ (l.invariant.1 ∙ ap (λ n. bytes_from n c.args.s.now c.args.at) whole)
