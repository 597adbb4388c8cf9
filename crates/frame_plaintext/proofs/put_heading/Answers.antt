-- `frame_plaintext::put_heading` meets its contract.
use Rattle.std.proofs.Common.{arith}
use Rattle.frame_layout.proofs.LayoutLaws.{three_put}
use Rattle.frame_plaintext.proofs.Plaintexts.{heading_three, put_urg, put_bare}
use Rattle.frame_plaintext.proofs.put_heading.Goals as goal

pub returns-then-urg : goal.returns-then-urg
returns-then-urg c =
    put_urg _ _ _ _ _ _ c.flags_sent.ensures c.if-urg.true
    (three_put c.args.s.now _ _ (omega (arith, heading_three _ c.if-urg.true)) _ _ c.copy.ensures c.write_u16.ensures)

pub returns-else-urg : goal.returns-else-urg
returns-else-urg c = put_bare _ _ _ _ _ _ c.flags_sent.ensures c.if-urg.false c.copy.ensures
