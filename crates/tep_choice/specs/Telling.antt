-- The view of what an answer comes to loses nothing. Assumes nothing.
use Rattle.std.specs.Prelude.{◌≡◌, refl, Result, Ok, Err}
use Rattle.std.proofs.Common.{sym, ◌∙◌, ap}
use Rattle.eno.specs.declared.Cause.{Cause}
use Rattle.door.specs.Answer.{Answering, plain_for, with}
use Rattle.tep_choice.specs.Choosing.{decision_of}
use Rattle.tep_choice.specs.declared.Chosen.{Chosen}

abbrev decision_in : Answering → Result Chosen Cause
decision_in (plain_for n) = Err n
decision_in (with c) = Ok (record { tep = c.tep; at = c.at })

decision_back : (x : Result Chosen Cause) → decision_in (decision_of x) ≡ x
decision_back (Err n) = refl
decision_back (Ok c) = refl

pub decision_tells : (x y : Result Chosen Cause) → decision_of x ≡ decision_of y → x ≡ y
decision_tells x y e = sym (decision_back x) ∙ (ap decision_in e ∙ decision_back y)
