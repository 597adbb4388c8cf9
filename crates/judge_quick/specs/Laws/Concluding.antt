-- The judgement that holds the transcript. Assumes nothing.
use Prim.Native.Nat.{ℕ, ◌+◌, ◌≤◌}
use Rattle.std.specs.Prelude.{◌≡◌, true, false, replicate}
use Rattle.std.proofs.Common.{◌∙◌}
use Rattle.std.proofs.Math.Path.{ap₂}
use mathlib.Core.List.{List}
use Rattle.std.proofs.Math.ListN.{length}
use Rattle.wire.specs.Bytes.{pasted}
use Rattle.valid_tep.specs.Best.{is_found, start_of, resumed_of}
use Rattle.valid_tep.specs.declared.Best.{Best}
use Rattle.std.specs.Prelude as code
use Rattle.judgement.specs.Answers.{most_transcript, without_transcript}
use Rattle.judgement.specs.Laws.Transcript.{both_written}
use Rattle.judgement.specs.declared.Reason.TheVariants as reason
use Rattle.judgement.specs.declared.Verdict.TheVariants as verdict
use Rattle.judgement.specs.declared.Judgement.{Judgement}
use Rattle.judge_quick.specs.Quick.{byte_before, concluded}

module _ (a b : List ℕ) (role : ℕ) (best : code.Option Best) where
  pub conclude_none : is_found best ≡ false → without_transcript (verdict.Plain reason.NoValidTep) ≡ concluded a b role best
  unfolding concluded
  conclude_none e = simp e

  pub conclude_some : is_found best ≡ true → length a ≤ 40 → length b ≤ 40 → (tep : ℕ) (once twice : List ℕ) → tep ≡ byte_before b (start_of best)
      → once ≡ pasted (replicate most_transcript 0) 0 a → twice ≡ pasted once (length a) b
      → record { verdict = verdict.Encrypted role tep (resumed_of best); length = length a + length b; transcript = twice } ≡ concluded a b role best
  unfolding concluded
  conclude_some e la lb tep once twice p q r = ap₂ made p (both_written a b la lb once twice q r) ∙ simp e
    where
      made : ℕ → List ℕ → Judgement
      made x t = record { verdict = verdict.Encrypted role x (resumed_of best); length = length a + length b; transcript = t }
