-- `without_transcript` meets its contract.
use mathlib.Core.Path.{refl}
use Rattle.judgement.specs.Answers.{without_transcript}
use Rattle.judgement.proofs.without_transcript.Goals as goal

pub returns : goal.returns
unfolding without_transcript
returns c = refl
