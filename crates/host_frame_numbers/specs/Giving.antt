-- An exported writer gives back what the writer that it wraps gives back, in plain numbers.
use Rattle.std.specs.Prelude.{◌≡◌}
use Rattle.std.proofs.Common.{◌∙◌, ap}
use Rattle.frame_layout.specs.Outcome.{Outcome}
use Rattle.host_frame_numbers.specs.Replies.{frame_numbers, GivesFrame}
use Rattle.host_reply.specs.declared.ReplyNumbers.{ReplyNumbers}

-- a writer: the reply's numbers, and the lent buffer
pub gives_frame : (r : ReplyNumbers) (x o : Outcome) → r ≡ frame_numbers x.reply → x ≡ o → GivesFrame r x.buffer o
gives_frame r x o e f = (e ∙ ap (λ (v : Outcome). frame_numbers v.reply) f, ap (λ (v : Outcome). v.buffer) f)
