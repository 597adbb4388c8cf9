-- Worked examples: each label as HKDF gets it, in the RFC's numbers; and what is refused.
use Rattle.std.specs.Prelude.{◌≡◌, List, [], ◌∷◌}
use Rattle.key_layout.specs.Outcome.{Reply}
use Rattle.key_layout.specs.Calls.{Ask, outcome}

abbrev pub Says : List (Ask × Reply) → Type 0
Says [] = Unit {0}
Says (x ∷ l) = ((outcome x.0).reply ≡ x.1) × Says l
