-- `frame_header::read_header` meets its contract.
use Rattle.std.proofs.Common.{sym, ◌∙◌, ap, arith}
use Rattle.frame_header.proofs.Headers.{header_read}
use Rattle.frame_layout.specs.Answers.{next_told}
use Rattle.frame_layout.specs.Layout.{bit0}
use Rattle.frame_header.proofs.read_header.Goals as goal

pub returns : goal.returns
unfolding bit0
returns c = header_read c.args.bytes.now _ (omega arith) _ _ c.read_u16-clen.ensures (ap next_told (sym c.in_ok-next.ensures.ok_part) ∙ c.next_offset.ensures)
