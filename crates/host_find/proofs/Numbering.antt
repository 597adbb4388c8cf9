-- The finder's word in plain numbers, variant by variant.
use mathlib.Core.Path.{◌≡◌, sym, ◌∙◌, ap}
use Rattle.eno.specs.Area.{Status}
use Rattle.finder.specs.Answers.{status_of}
use Rattle.finder.specs.declared.FindStatus.{FindStatus}
use Rattle.host_find.specs.Replies.{status_numbers}
use Rattle.host_reply.specs.declared.ReplyNumbers.{ReplyNumbers}

pub status_numbers_lem : (x y : FindStatus) (s : Status) (k : ReplyNumbers) → status_of x ≡ s → x ≡ y → k ≡ status_numbers (status_of y) → k ≡ status_numbers s
status_numbers_lem x y s k e f g = g ∙ (ap (λ (z : FindStatus). status_numbers (status_of z)) (sym f) ∙ ap status_numbers e)
