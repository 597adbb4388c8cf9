-- `put_at_end` meets its contract: each digit goes before those that stand.
use Rattle.std.proofs.Common.{◌<◌, rules, arith}
use Rattle.text_decimal_writer.proofs.FromTheEnd.{place_before, behind_none, behind_more, behind_all}
use Rattle.text_decimal_writer.proofs.put_at_end.Goals as goal

pub loop-left-init : goal.loop-left-init
loop-left-init c = behind_none _ _ (omega arith) (search rules)

pub loop-left-preserved : goal.loop-left-preserved
loop-left-preserved c =
    let p : 0 < c.loop-left.at = place_before _ _ c.loop-left.invariant.small c.loop-left-test.true in
    behind_more _ _ _ _ _ (omega arith) (search rules) c.loop-left-test.true c.loop-left.invariant

pub returns-clause-digits : goal.returns-clause-digits
returns-clause-digits c = behind_all _ _ _ _ (search rules) c.loop-left-test.false c.loop-left.invariant
