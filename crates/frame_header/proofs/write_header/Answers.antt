-- `frame_header::write_header` meets its contract.
use Rattle.std.proofs.Common.{sym, ◌∙◌, ap, arith}
use Rattle.frame_header.proofs.Headers.{header_fits, header_put}
use Rattle.frame_layout.specs.Answers.{next_told}
use Rattle.frame_header.proofs.write_header.Goals as goal

pub overflow_cast-clen : goal.overflow_cast-clen
overflow_cast-clen c = let h = header_fits _ _ _ (ap next_told (sym c.in_ok-next.ensures.ok_part) ∙ c.next_offset.ensures) in omega arith

pub returns : goal.returns
returns c = header_put _ _ _ _ (omega arith) _ _ _ (ap next_told (sym c.in_ok-next.ensures.ok_part) ∙ c.next_offset.ensures) c.control_sent.ensures c.put_three.ensures
