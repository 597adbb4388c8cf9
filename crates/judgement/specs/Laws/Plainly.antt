-- An answer without a transcript. Assumes nothing.
use Rattle.std.specs.Prelude.{◌≡◌, []}
use Rattle.std.proofs.Common.{sym, ◌∙◌, ap}
use Rattle.eno.specs.Judge.{Judged, plain}
use Rattle.eno.specs.declared.Cause.{Cause}
use Rattle.judgement.specs.Answers.{judged_of, transcript_of, padded, without_transcript, Judges}
use Rattle.judgement.specs.declared.Verdict.{Verdict}
use Rattle.judgement.specs.declared.Judgement.{Judgement}

pub judges_plainly : (j : Judged) (v : Verdict) → judged_of v [] ≡ j → transcript_of j ≡ [] → Judges j (without_transcript v)
unfolding without_transcript padded
judges_plainly j v e t = record { told = rw t e; counted = rw t; filled = rw t }

-- plain TCP for a reason
pub judges_reason : (j : Judged) (n : Cause) (v : Verdict) → j ≡ plain n → judged_of v [] ≡ plain n → (r : Judgement) → r ≡ without_transcript v → Judges j r
judges_reason j n v e q r w = rw w (judges_plainly j v (q ∙ sym e) (ap transcript_of e))
