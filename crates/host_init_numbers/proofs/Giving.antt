-- An exported writer gives back what the writer that it wraps gives back, in plain numbers.
use mathlib.Core.Path.{◌≡◌, ◌∙◌, ap}
use mathlib.Core.List.{List}
use Prim.Native.Nat.{ℕ}
use Rattle.eno.specs.Option.{Writing, Written, written_as}
use Rattle.host_init_numbers.specs.Replies.{writing_numbers, GivesInit}
use Rattle.host_reply.specs.declared.ReplyNumbers.{ReplyNumbers}

-- a writer: the reply's numbers, and the lent buffer
pub gives_init : (r : ReplyNumbers) (lent : List ℕ) (x : Writing) (w : Written) → r ≡ writing_numbers x → written_as x lent ≡ w → GivesInit r lent w
gives_init r lent x w e f = (e ∙ ap (λ (v : Written). writing_numbers v.says) f, ap (λ (v : Written). v.buffer) f)
