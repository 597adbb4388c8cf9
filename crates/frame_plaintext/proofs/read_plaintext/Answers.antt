-- `frame_plaintext::read_plaintext` meets its contract.
use Rattle.std.proofs.Common.{arith, sym, ◌∙◌, true-eqb, false-eqb}
use Rattle.frame_layout.specs.Layout.{bit0}
use Rattle.frame_plaintext.proofs.Plaintexts.{plaintext_none, plaintext_bare, plaintext_short, plaintext_urg}
use Rattle.frame_plaintext.proofs.read_plaintext.Goals as goal

pub returns-then-is_empty : goal.returns-then-is_empty
returns-then-is_empty c = plaintext_none _ (true-eqb _ _ (sym c.if-is_empty.true ∙ c.is_empty.ensures))

pub returns-then-flags-ne1 : goal.returns-then-flags-ne1
unfolding bit0
returns-then-flags-ne1 c = plaintext_bare c.args.bytes.now (false-eqb _ _ (sym c.if-is_empty.false ∙ c.is_empty.ensures)) (λ e. omega arith)

pub returns-then-bytes-lt3 : goal.returns-then-bytes-lt3
returns-then-bytes-lt3 c = plaintext_short _ (false-eqb _ _ (sym c.if-is_empty.false ∙ c.is_empty.ensures)) (omega arith) (omega arith)

pub returns : goal.returns
unfolding bit0
returns c = plaintext_urg _ (λ e. omega arith) (omega arith) (omega arith) _ c.read_u16.ensures
