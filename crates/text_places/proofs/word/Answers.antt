-- `word` meets its contract: it is what stands to the word's end.
use mathlib.Core.Path.{sym, ap, ◌∙◌}
use Prim.Native.Nat.{◌-◌}
use lib.ListN.{take, drop}
use Rattle.text_places.specs.WordLaws.{word_part}
use Rattle.text_places.proofs.word.Goals as goal

pub returns : goal.returns
returns c =
    let a = c.args in
    c.between.ensures ∙ (ap (λ n. take (n - a.at) (drop a.at a.s.now)) c.word_end.ensures.0 ∙ sym (word_part a.s.now a.at))
