-- The plain numbers of a generation record's steps lose nothing: reply and record are read back from them.
use Rattle.std.specs.Prelude.{ℕ, ◌≡◌, refl, true, false, cond, eqb}
use Rattle.std.proofs.Common.{sym, ◌∙◌, ap}
use Rattle.generation.specs.Steps.{Reply, refused, sent, received, Outcome}
use Rattle.generation.specs.declared.GenerationRecord.{GenerationRecord}
use Rattle.host_generation_numbers.specs.Replies.{step_numbers, generation_numbers}
use Rattle.host_generation_numbers.specs.declared.GenerationNumbers.{GenerationNumbers}

abbrev outcome_of : Reply → GenerationRecord → Outcome
outcome_of x g = record { reply = x; next = g }

abbrev step_back : GenerationNumbers → Outcome
step_back r =
    outcome_of
    (cond (eqb r.kind 0) (refused r.number) (cond (eqb r.kind 15) (sent r.number (eqb r.rekey 1)) (received r.number)))
    r.next

reply_back_lem : (x : Reply) (g : GenerationRecord) → step_back (step_numbers x g) ≡ outcome_of x g
unfolding step_numbers
reply_back_lem (refused n) g = refl
reply_back_lem (sent n true) g = refl
reply_back_lem (sent n false) g = refl
reply_back_lem (received n) g = refl

step_back_lem : (x : Outcome) → step_back (generation_numbers x) ≡ x
unfolding generation_numbers
step_back_lem x = reply_back_lem x.reply x.next

pub generation_numbers_tell : (x y : Outcome) → generation_numbers x ≡ generation_numbers y → x ≡ y
generation_numbers_tell x y e = sym (step_back_lem x) ∙ (ap step_back e ∙ step_back_lem y)
