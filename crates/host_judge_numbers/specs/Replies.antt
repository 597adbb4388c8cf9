-- What the judge gives back, in plain numbers.
use Rattle.std.specs.Prelude.{ℕ, length}
use Rattle.eno.specs.Judge.{Judged, refuse, plain, encrypt}
use Rattle.judgement.specs.Answers.{transcript_of, padded}
use Rattle.host_reply.specs.Numbers.{of_kind, plain_numbers, way_number}
use Rattle.host_reply.specs.declared.ReplyNumbers.{ReplyNumbers}
use Rattle.host_judge_numbers.specs.declared.JudgementNumbers.{JudgementNumbers}

-- a judgement whose transcript has n bytes
unfoldable pub judged_numbers : Judged → (n : ℕ) → ReplyNumbers
judged_numbers (refuse number) n = of_kind 0 number
judged_numbers (plain cause) n = plain_numbers cause
judged_numbers (encrypt role byte way transcript) n = record { number = n; kind = 4; role = role; tep = byte; resumed = way_number way; place = 0; option = 0 }

-- the transcript with zeros to the array's end
unfoldable pub judgement_numbers : Judged → JudgementNumbers
judgement_numbers j = record { reply = judged_numbers j (length (transcript_of j)); transcript = padded (transcript_of j) }
