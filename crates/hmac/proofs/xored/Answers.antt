-- `hmac::xored` meets its contract.
use Rattle.std.proofs.Common.{rules, arith, ◌≡◌, length}
use Rattle.hmac.proofs.Blocks.{xored_next, xored_done}
use Rattle.hmac.proofs.xored.Goals as goal

pub loop-y-preserved : goal.loop-y-preserved
loop-y-preserved c =
    let n : length c.args.block ≡ 64 = search rules in
    xored_next c.args.x c.loop-y.y-index c.args.block c.loop-y.y-items c.loop-y.invariant (omega arith)

pub returns : goal.returns
returns c =
    let n : length c.args.block ≡ 64 = search rules in
    xored_done c.args.x c.loop-y.y-index c.args.block c.loop-y.y-items c.loop-y.invariant (omega arith)
