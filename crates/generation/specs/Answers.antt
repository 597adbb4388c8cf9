-- The answers of the steps in document 01's numbers and values; the views lose nothing.
use Rattle.std.specs.Prelude.{Result, Ok, Err}
use Rattle.generation.specs.Steps.{Reply, refused, sent, received, Outcome}
use Rattle.generation.specs.declared.GenerationRecord.{GenerationRecord}
use Rattle.generation.specs.declared.GenerationReply.{GenerationReply}
use Rattle.generation.specs.declared.GenerationReply.TheVariants as a
use Rattle.generation.specs.declared.GenerationRefusal.{GenerationRefusal}
use Rattle.generation.specs.declared.GenerationRefusal.TheVariants as e
use Rattle.generation.specs.declared.GenerationStep.{GenerationStep}

-- 4 while a rekey frame is owed, 13 where a generation would pass 65,535, 14 after FINp, 15 without data while remote is below local
abbrev pub reply_of : Result GenerationReply GenerationRefusal → Reply
reply_of (Ok (a.Sent generation rekey)) = sent generation rekey
reply_of (Ok (a.Received generation)) = received generation
reply_of (Err e.Owed) = refused 4
reply_of (Err e.PastLast) = refused 13
reply_of (Err e.Finished) = refused 14
reply_of (Err e.Unanswered) = refused 15

-- a step on a record: a refusal leaves the record as it was
abbrev pub step_of : GenerationRecord → Result GenerationStep GenerationRefusal → Outcome
step_of g (Ok r) = record { reply = reply_of (Ok r.reply); next = r.next }
step_of g (Err x) = record { reply = reply_of (Err x); next = g }

-- the same where the record is lent: the answer, and the record afterwards
abbrev pub lent : Result GenerationReply GenerationRefusal → GenerationRecord → Outcome
lent r g = record { reply = reply_of r; next = g }
