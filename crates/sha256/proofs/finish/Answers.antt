-- `sha256::finish` meets its contract.
use Prim.Native.Nat.{◌*◌}
use Prim.Native.Nat.{◌-◌, ◌%◌}
use mathlib.Core.Path.{◌≡◌, sym, ◌∙◌}
use native.Mathlib.Omega.{arith}
use borrow.Author.Rules.{rules}
use lib.ListN.{length}
use Rattle.hash_layout.specs.Sha256.{zeros}
use Rattle.sha256.proofs.Holding.{pad_front, pad_long, be_eight, finished}
use Rattle.sha256.proofs.finish.Goals as goal

pub slice_bounds-update-end : goal.slice_bounds-update-end
slice_bounds-update-end c =
    let k = (119 - c.args.s.len % 64) % 64 in sym (pad_long k (omega arith))

pub update-t-requires : goal.update-t-requires
update-t-requires c =
    let k = (119 - c.args.s.len % 64) % 64 in
    let l = pad_long k (omega arith) in
    (omega arith, omega arith)

pub update-u-requires : goal.update-u-requires
update-u-requires c =
    let k = (119 - c.args.s.len % 64) % 64 in
    let l = pad_long k (omega arith) in
    let p = c.update-t.ensures in
    let b : length c.to_be_bytes-bits.result ≡ 8 = search rules in
    (omega (arith, p.size), omega (arith, p.count))

pub returns : goal.returns
unfolding zeros
returns c =
    let a = c.args in
    finished a.s _ _ _ _ _ _ _ _ c.update-t.ensures
    (pad_front ((119 - a.s.len % 64) % 64) (omega arith))
    c.update-u.ensures (c.to_be_bytes-bits.ensures ∙ be_eight (a.s.len * 8)) c.bytes_of.ensures
