-- The exported judge gives back what the judge says, in plain numbers.
use Prim.Native.Nat.{ℕ}
use mathlib.Core.Path.{◌≡◌, refl, ◌∙◌, ap, ap₂}
use mathlib.Core.List.{List, []}
use mathlib.Core.Bool.{Bool, true, false}
use lib.ListN.{length}
use Rattle.eno.specs.Judge.{Judged, way_if}
use Rattle.judgement.specs.Answers.{judged_of, transcript_of, Judges}
use Rattle.judgement.specs.declared.Verdict.{Verdict}
use Rattle.judgement.specs.declared.Verdict.TheVariants as verdict
use Rattle.judgement.specs.declared.Judgement.{Judgement}
use Rattle.host_reply.specs.Numbers.{flag_number}
use Rattle.host_reply.specs.Numbers.{way_number}
use Rattle.host_judge_numbers.specs.Replies.{judged_numbers, judgement_numbers}
use Rattle.host_reply.specs.declared.ReplyNumbers.{ReplyNumbers}
use Rattle.host_judge_numbers.specs.declared.JudgementNumbers.{JudgementNumbers}

-- whether a session is resumed, as a flag
pub flag_way : (b : Bool) → flag_number b ≡ way_number (way_if b)
flag_way true = refl
flag_way false = refl

-- the transcript's bytes are no part of the reply
without_transcript_lem : (v : Verdict) (t : List ℕ) (n : ℕ) → judged_numbers (judged_of v []) n ≡ judged_numbers (judged_of v t) n
unfolding judged_numbers
without_transcript_lem verdict.Refused t n = refl
without_transcript_lem (verdict.Plain r) t n = refl
without_transcript_lem (verdict.Encrypted role byte resumed) t n = refl

abbrev judgement : ReplyNumbers → List ℕ → JudgementNumbers
judgement r t = record { reply = r; transcript = t }

pub judged : (j : Judged) (x : Judgement) (r : ReplyNumbers) → r ≡ judged_numbers (judged_of x.verdict []) x.length → Judges j x → judgement r x.transcript ≡ judgement_numbers j
unfolding judgement_numbers
judged j x r e s = ap₂ judgement (e ∙ (without_transcript_lem x.verdict (transcript_of j) x.length ∙ ap₂ judged_numbers s.told s.counted)) s.filled
