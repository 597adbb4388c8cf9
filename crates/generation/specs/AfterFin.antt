-- Change request (iii): after FINp nothing is owed. Document 01's rule as it was first written, and what moved. Assumes nothing.
use Rattle.std.specs.Prelude.{◌≡◌, [], ◌∷◌, true, cond, not, ◌&&◌}
use Rattle.std.proofs.Math.Dec.{ltb}
use Rattle.refusals.specs.Rows.{refusal}
use Rattle.generation.specs.Steps.{refused, Outcome, Ask, send, initiate, receive, is_above, sending, raised, receiving, unless, would_pass, outcome}
use Rattle.generation.specs.declared.GenerationRecord.{GenerationRecord}

-- as first written: a rekey frame is owed whenever local is above last-used
unfoldable pub outcome_as_written : GenerationRecord → Ask → Outcome
outcome_as_written g (send fin) = unless (refusal ((is_above g && would_pass g.last, 13) ∷ (g.fin, 14) ∷ [])) g (sending g fin)
outcome_as_written g (initiate has_data fin) =
    unless (refusal ((is_above g, 4) ∷ (would_pass g.local, 13) ∷ (g.fin, 14) ∷ (not has_data && ltb g.remote g.local, 15) ∷ [])) g
    (sending (raised g) fin)
outcome_as_written g (receive rekey) = unless (refusal ((rekey && would_pass g.remote, 13) ∷ [])) g (receiving g rekey)

-- what moves: after FINp, where initiating gave 4, it gives the lowest other number
pub record Moved (g : GenerationRecord) (k : Ask) : Type 0 where
  pub after_fin : g.fin ≡ true
  pub gave_4 : (outcome_as_written g k).reply ≡ refused 4
  pub gives : outcome g k ≡ record { reply = refused (cond (would_pass g.local) 13 14); next = g }
