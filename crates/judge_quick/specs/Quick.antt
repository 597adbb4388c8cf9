-- How the code comes to its judgement of two options: from the last valid TEP.
use Rattle.std.specs.Prelude.{ℕ, zero, suc, ◌+◌, ◌-◌, List, [], ◌∷◌, ◌++◌, Bool, true, false, cond, ◌||◌, eqb, length, get_or}
use Rattle.std.proofs.Math.Option.{Option}
use Rattle.eno.specs.Judge.{of_a, of_b}
use Rattle.eno.specs.declared.SessionRecord.{SessionRecord}
use Rattle.suboptions.specs.declared.Summary.{Summary}
use Rattle.valid_tep.specs.Best.{best_of, is_found, start_of, resumed_of}
use Rattle.valid_tep.specs.declared.Best.{Best}
use Rattle.std.specs.Prelude as code
use Rattle.judgement.specs.Answers.{padded, without_transcript}
use Rattle.judgement.specs.declared.Reason.TheVariants as reason
use Rattle.judgement.specs.declared.Verdict.TheVariants as verdict
use Rattle.judgement.specs.declared.Judgement.{Judgement}

unfoldable pub byte_before : List ℕ → ℕ → ℕ
byte_before s at = cond (eqb at 0) 0 (get_or s (at - 1) 0)

unfoldable pub concluded : List ℕ → List ℕ → ℕ → code.Option Best → Judgement
concluded a b role best =
    cond (is_found best)
    (record {
      verdict = verdict.Encrypted role (byte_before b (start_of best)) (resumed_of best);
      length = length a + length b;
      transcript = padded (a ++ b);
    })
    (without_transcript (verdict.Plain reason.NoValidTep))

unfoldable pub negotiated : List ℕ → List ℕ → Option SessionRecord → Summary → Summary → Judgement
negotiated own peer hand s p =
    let own_is_b = eqb s.role 1 in
    let a = of_a own_is_b own peer in
    let b = of_b own_is_b own peer in
    concluded a b s.role (best_of a b hand own_is_b s.teps p.teps)
