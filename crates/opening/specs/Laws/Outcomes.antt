-- The outcome of an option that is written, and of a refusal.
use Rattle.std.specs.Prelude.{ℕ, ◌≡◌, List, Result, Err}
use Rattle.std.proofs.Common.{◌∙◌, ap}
use Rattle.door.specs.Outcome.{Outcome, Effect, refused, written, keep}
use Rattle.door.specs.Answers.{refusal_number, outcome_as}
use Rattle.door.specs.declared.Door.{Door}
use Rattle.door.specs.declared.Refusal.{Refusal}
use Rattle.opening.specs.Steps.{opening_as}
use Rattle.opening.specs.declared.Opening.{Opening}

-- an outcome by its parts
pub outcome_is : (k l : ℕ) (s t : List ℕ) (d e : Door) (f g : Effect) → k ≡ l → s ≡ t → d ≡ e → f ≡ g → outcome_as (written k) s d f ≡ outcome_as (written l) t e g
outcome_is k l s t d e f g p q r u = λ i. outcome_as (written (p i)) (q i) (r i) (u i)

-- a refusal
pub refuses : (r : Result Opening Refusal) (d : Door) (why : Refusal) (s : List ℕ) (o : Outcome) → r ≡ Err why → outcome_as (refused (refusal_number why)) s d keep ≡ o
    → opening_as r s d ≡ o
refuses r d why s o e q = ap (λ (x : Result Opening Refusal). opening_as x s d) e ∙ q
