-- `init_reader::taken` meets its contract: nonce and key stand beside the answer.
use mathlib.Core.Path.{ap₂}
use Rattle.init_layout.specs.Reading.{took, reading_as}
use Rattle.init_reader.proofs.taken.Goals as goal

pub returns : goal.returns
returns c = let a = c.args in ap₂ (λ n k. reading_as (took a.cipher a.count a.whole) n k) c.nonce_at-nonce.ensures c.key_at-key.ensures
