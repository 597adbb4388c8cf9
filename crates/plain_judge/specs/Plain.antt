-- How the plain judge comes to its judgement of two options.
use Rattle.std.specs.Prelude.{ℕ, ◌+◌, List, ◌++◌, Bool, eqb, length}
use Rattle.std.proofs.Math.Option.{Option, none, some}
use Rattle.eno.specs.Suboption.{Sent, teps}
use Rattle.eno.specs.Judge.{is_resumed, of_a, of_b, Negotiated}
use Rattle.eno.specs.declared.SessionRecord.{SessionRecord}
use Rattle.judgement.specs.Answers.{encrypted_as, without_transcript}
use Rattle.judgement.specs.Laws.Found.{sides_of}
use Rattle.judgement.specs.declared.Reason.TheVariants as reason
use Rattle.judgement.specs.declared.Verdict.TheVariants as verdict
use Rattle.judgement.specs.declared.Judgement.{Judgement}
use Rattle.suboption_list.specs.List.{items_in, list_of}
use Rattle.plain_validity.specs.Validity.{validity_in}
use Rattle.plain_striking.specs.Striking.{struck, last_of, taken}

unfoldable pub concluded : (a b : List ℕ) → ℕ → Option Negotiated → Judgement
concluded a b role none = without_transcript (verdict.Plain reason.NoValidTep)
concluded a b role (some n) = encrypted_as a b role n.byte (is_resumed n.way)

-- by the TEPs that are listed of each side; B's option is listed anew
unfoldable pub negotiated_in : (own peer : List ℕ) → Option SessionRecord → ℕ → (mine theirs : List Sent) → Judgement
negotiated_in own peer hand role mine theirs =
    let own_is_b = eqb role 1 in
    let valid = validity_in (sides_of hand own peer own_is_b) mine theirs in
    let b = of_b own_is_b own peer in
    concluded (of_a own_is_b own peer) b role (taken valid (last_of (struck valid (teps (items_in (list_of b))))))
