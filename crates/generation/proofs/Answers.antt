-- The answers of the steps in document 01's numbers and values; the views lose nothing.
use Rattle.std.specs.Prelude.{◌≡◌, refl, cond, eqb, Result, Ok, Err}
use Rattle.std.proofs.Common.{sym, ◌∙◌, ap}
use Rattle.generation.specs.Steps.{Reply, refused, sent, received, Outcome}
use Rattle.generation.specs.declared.GenerationRecord.{GenerationRecord}
use Rattle.generation.specs.declared.GenerationReply.{GenerationReply}
use Rattle.generation.specs.declared.GenerationReply.TheVariants as a
use Rattle.generation.specs.declared.GenerationRefusal.{GenerationRefusal}
use Rattle.generation.specs.declared.GenerationRefusal.TheVariants as e
use Rattle.generation.specs.declared.GenerationStep.{GenerationStep}
use Rattle.generation.specs.Answers.{reply_of, step_of}

-- the view loses nothing: a reply is read back from its number and values
abbrev reply_in : Reply → Result GenerationReply GenerationRefusal
reply_in (sent generation rekey) = Ok (a.Sent generation rekey)
reply_in (received generation) = Ok (a.Received generation)
reply_in (refused n) = Err (cond (eqb n 4) e.Owed (cond (eqb n 13) e.PastLast (cond (eqb n 14) e.Finished e.Unanswered)))

reply_back_lem : (x : Result GenerationReply GenerationRefusal) → reply_in (reply_of x) ≡ x
reply_back_lem (Ok (a.Sent generation rekey)) = refl
reply_back_lem (Ok (a.Received generation)) = refl
reply_back_lem (Err e.Owed) = refl
reply_back_lem (Err e.PastLast) = refl
reply_back_lem (Err e.Finished) = refl
reply_back_lem (Err e.Unanswered) = refl

pub reply_tells : (x y : Result GenerationReply GenerationRefusal) → reply_of x ≡ reply_of y → x ≡ y
reply_tells x y e = sym (reply_back_lem x) ∙ (ap reply_in e ∙ reply_back_lem y)

-- a step is read back from its reply and the record afterwards
abbrev step_in : Reply → GenerationRecord → Result GenerationStep GenerationRefusal
step_in (sent generation rekey) g = Ok (record { next = g; reply = a.Sent generation rekey })
step_in (received generation) g = Ok (record { next = g; reply = a.Received generation })
step_in (refused n) g = Err (cond (eqb n 4) e.Owed (cond (eqb n 13) e.PastLast (cond (eqb n 14) e.Finished e.Unanswered)))

sent_back : (next : GenerationRecord) (x : GenerationReply) → step_in (reply_of (Ok x)) next ≡ Ok (record { next = next; reply = x })
sent_back next (a.Sent generation rekey) = refl
sent_back next (a.Received generation) = refl

step_back_lem : (g : GenerationRecord) (x : Result GenerationStep GenerationRefusal) → step_in (step_of g x).reply (step_of g x).next ≡ x
step_back_lem g (Ok r) = sent_back r.next r.reply
step_back_lem g (Err e.Owed) = refl
step_back_lem g (Err e.PastLast) = refl
step_back_lem g (Err e.Finished) = refl
step_back_lem g (Err e.Unanswered) = refl

pub step_tells : (g : GenerationRecord) (x y : Result GenerationStep GenerationRefusal) → step_of g x ≡ step_of g y → x ≡ y
step_tells g x y e = sym (step_back_lem g x) ∙ (ap (λ (o : Outcome). step_in o.reply o.next) e ∙ step_back_lem g y)
