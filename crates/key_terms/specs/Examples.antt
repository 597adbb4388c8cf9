-- Worked examples by computation: a session resumed, seen at each end, with and without nonces; what has no terms.
use Rattle.std.specs.Prelude.{ℕ, ◌≡◌, List, [], ◌∷◌}
use Rattle.key_terms.specs.Calls.{Outcome, resumption_terms}

-- role, TEP byte, identifier, transcript
pub record Row : Type 0 where
  pub role : ℕ
  pub tep : ℕ
  pub identifier : List ℕ
  pub transcript : List ℕ
  pub gives : Outcome

abbrev pub Holds : List Row → Type 0
Holds [] = Unit {0}
Holds (r ∷ l) = (resumption_terms r.role r.tep r.identifier r.transcript ≡ r.gives) × Holds l
