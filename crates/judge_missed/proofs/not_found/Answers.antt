-- `not_found` meets its contract.
use mathlib.Core.Path.{◌∙◌, ap}
use Rattle.judgement.specs.Answers.{without_transcript}
use Rattle.judge_missed.proofs.Steps.{missed_both}
use Rattle.judge_missed.proofs.not_found.Goals as goal

pub returns : goal.returns
returns c =
    c.without_transcript.ensures ∙ (ap without_transcript c.missed-verdict.ensures ∙ missed_both _ _ _ _ c.status_of-s.result c.status_of-p.result c.status_of-s.ensures c.status_of-p.ensures)
