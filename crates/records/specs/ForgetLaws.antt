-- Laws of forget and count: the outcomes, in the order of the tests. Assumes nothing.
use Rattle.std.specs.Prelude.{ℕ, ◌≡◌, List, [], true, false, length}
use Rattle.door.specs.Record.{first_that, is_session}
use Rattle.door.specs.Door.{Seen}
use Rattle.door.specs.Outcome.{done, holds, keep, remove, refuse, refusal, unless}
use Rattle.door.specs.Records.{is_held, forget, count}
use Rattle.door.specs.Answers.{outcome_as}
use Rattle.record_tests.specs.Steps.{is_named}

module _ (v : Seen) (t : ℕ) (identifier : List ℕ) where
  pub forget_unfit : is_named t identifier ≡ false → refuse 3 v.door [] ≡ forget v t identifier
  unfolding is_named forget refusal unless
  forget_unfit e = simp e

  module _ (fit : is_named t identifier ≡ true) where
    pub forget_not_held : is_held t identifier v.held ≡ false → refuse 16 v.door [] ≡ forget v t identifier
    unfolding is_named forget refusal unless
    forget_not_held e = simp (fit, e)

    pub forget_removes : (j : ℕ) → j ≡ first_that (is_session t identifier) v.held → is_held t identifier v.held ≡ true → outcome_as done [] v.door (remove j) ≡ forget v t identifier
    unfolding is_named forget refusal unless
    forget_removes j p e = simp (fit, e, p)

pub count_holds : (v : Seen) (n : ℕ) → n ≡ length v.held → outcome_as (holds n) [] v.door keep ≡ count v
unfolding count
count_holds v n e = simp e
