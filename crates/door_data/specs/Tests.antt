-- Two tests of a call: the lower number is told first.
use Rattle.std.specs.Prelude.{ℕ, ◌≡◌, refl, List, [], ◌∷◌, Bool, true, false, cond}
use Rattle.door.specs.Outcome.{Outcome, refused, keep, refusal, unless}
use Rattle.door.specs.Answers.{outcome_as}
use Rattle.door.specs.declared.Door.{Door}

pub two_tests : (a b : Bool) (m n : ℕ) (d : Door) (s : List ℕ) (x : Outcome) → unless (refusal ((a, m) ∷ (b, n) ∷ [])) d s x ≡ cond a (outcome_as (refused m) s d keep) (cond b (outcome_as (refused n) s d keep) x)
unfolding unless refusal
two_tests true b m n d s x = refl
two_tests false true m n d s x = refl
two_tests false false m n d s x = refl
