-- `frame_plaintext::write_plaintext` meets its contract.
use Rattle.std.proofs.Common.{arith}
use Rattle.frame_plaintext.proofs.Plaintexts.{plaintext_over, plaintext_long, plaintext_put}
use Rattle.frame_plaintext.proofs.write_plaintext.Goals as goal

pub returns-then-out-n : goal.returns-then-out-n
returns-then-out-n c = plaintext_over _ _ _ _ _ _ c.heading_length-n.ensures.0 (omega arith)

pub returns-then-size-gt65519 : goal.returns-then-size-gt65519
returns-then-size-gt65519 c = plaintext_long _ _ _ _ _ _ c.heading_length-n.ensures.0 (omega arith) (omega arith)

pub returns : goal.returns
returns c = let a = c.args in plaintext_put _ _ _ a.payload.now a.out.now _ c.heading_length-n.ensures.0 (omega arith) (omega arith) _ _ _ (omega arith) c.put_heading.ensures c.copy.ensures
