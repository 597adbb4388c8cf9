-- The plain numbers of a judgement lose nothing: it is read back from the reply and the array beside it.
use Rattle.std.specs.Prelude.{◌≡◌, refl, cond, eqb, length, take}
use Rattle.std.proofs.Common.{sym, ◌∙◌, ap, ap₂, take_at}
use Rattle.eno.specs.Judge.{Judged, refuse, plain, encrypt}
use Rattle.judgement.specs.Answers.{padded}
use Rattle.host_reply.specs.Numbers.{way_of, way_back}
use Rattle.host_judge_numbers.specs.Replies.{judged_numbers, judgement_numbers}
use Rattle.host_judge_numbers.specs.declared.JudgementNumbers.{JudgementNumbers}

abbrev judged_back : JudgementNumbers → Judged
judged_back x =
    let r = x.reply in
    cond (eqb r.kind 0) (refuse r.number)
    (cond (eqb r.kind 2) (plain (record { reason = r.number; place = r.place; kind = r.option })) (encrypt r.role r.tep (way_of r.resumed) (take r.number x.transcript)))

judged_back_lem : (x : Judged) → judged_back (judgement_numbers x) ≡ x
unfolding judged_numbers judgement_numbers padded
judged_back_lem (refuse n) = refl
judged_back_lem (plain c) = refl
judged_back_lem (encrypt role byte way t) = ap₂ (encrypt role byte) (way_back way) (take_at t _ (length t) refl)

pub judgement_numbers_tell : (x y : Judged) → judgement_numbers x ≡ judgement_numbers y → x ≡ y
judgement_numbers_tell x y e = sym (judged_back_lem x) ∙ (ap judged_back e ∙ judged_back_lem y)
