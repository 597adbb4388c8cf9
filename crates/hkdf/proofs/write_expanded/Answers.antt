-- `hkdf::write_expanded` meets its contract.
use mathlib.Core.Path.{◌≡◌, refl, sym}
use native.Mathlib.Omega.{arith}
use borrow.Author.Rules.{rules}
use lib.ListN.{length}
use lib.Seq.{length-take-le}
use Rattle.hkdf.proofs.Blocks.{least_is, out_start, out_long, out_fits, out_next, out_done}
use Rattle.hkdf.proofs.write_expanded.Goals as goal

pub loop-at-init : goal.loop-at-init
loop-at-init c = out_start _ _ _ _ _ refl

pub overflow_sub-size : goal.overflow_sub-size
overflow_sub-size c = omega arith

pub overflow_add-i : goal.overflow_add-i
overflow_add-i c = omega arith

pub overflow_cast-c : goal.overflow_cast-c
overflow_cast-c c = omega (arith, c.requires.most)

pub slice_bounds-t-end : goal.slice_bounds-t-end
slice_bounds-t-end c = let x = c.loop-at.invariant in omega (arith, x.at_most, x.size_t)

pub slice_bounds-next_block-end : goal.slice_bounds-next_block-end
slice_bounds-next_block-end c = let l = c.loop-at in sym (length-take-le l.n l.t (omega (arith, l.invariant.at_most, l.invariant.size_t)))

pub slice_bounds-next_block-end-in-loop-at : goal.slice_bounds-next_block-end-in-loop-at
slice_bounds-next_block-end-in-loop-at c = refl

pub next_block-t-requires : goal.next_block-t-requires
next_block-t-requires c =
    let l = c.loop-at in
    let a = c.args in
    let n = length-take-le l.n l.t (omega (arith, l.invariant.at_most, l.invariant.size_t)) in
    let f = out_fits a.prk.now a.info.now a.out.now l.out l.t a.size l.n l.at l.invariant (omega arith) c.requires in
    (omega (arith, c.requires.key), omega (arith, f, n))

pub overflow_add-at : goal.overflow_add-at
overflow_add-at c = let q = least_is _ _ c.least-m.ensures in omega (arith, q.within, c.requires.most)

pub loop-at-smaller : goal.loop-at-smaller
loop-at-smaller c = let q = least_is _ _ c.least-m.ensures in let p = q.some_left (omega arith) in omega (arith, p, q.within)

pub shape_of-out : goal.shape_of-out
shape_of-out c =
    let a = c.args in
    let l = c.loop-at in
    out_long a.prk.now a.info.now a.out.now l.out l.t a.size l.n l.at l.invariant

pub returns : goal.returns
returns c =
    let a = c.args in
    let l = c.loop-at in
    out_done a.prk.now a.info.now a.out.now l.out l.t a.size l.n l.at l.invariant (omega arith)

pub loop-at-preserved : goal.loop-at-preserved
loop-at-preserved c =
    let a = c.args in
    let l = c.loop-at in
    let q = least_is _ _ c.least-m.ensures in
    let b : length c.next_block-t.result ≡ 32 = search rules in
    out_next a.prk.now a.info.now a.out.now l.out l.t c.next_block-t.result c.copy.new.s _ a.size l.n l.at c.least-m.result l.invariant (omega arith) c.requires.room
    c.next_block-t.ensures refl b q c.copy.ensures

pub slice_bounds-t-end-in-loop-at : goal.slice_bounds-t-end-in-loop-at
slice_bounds-t-end-in-loop-at c =
    let q = least_is _ _ c.least-m.ensures in
    let b : length c.next_block-t.result ≡ 32 = search rules in
    omega (arith, q.small)

pub slice_bounds-copy-end : goal.slice_bounds-copy-end
slice_bounds-copy-end c =
    let q = least_is _ _ c.least-m.ensures in
    let b : length c.next_block-t.result ≡ 32 = search rules in
    sym (length-take-le c.least-m.result c.next_block-t.result (omega (arith, q.small)))
