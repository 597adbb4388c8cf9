-- What the steps that offer and answer share tell.
use Rattle.std.specs.Prelude.{ℕ, List, [], cond, ltb, Result, Ok, Err}
use Rattle.door.specs.Door.{no_session}
use Rattle.door.specs.Outcome.{Outcome, Effect, keep, remove}
use Rattle.door.specs.Answers.{reply_of, effect_of, outcome_as}
use Rattle.door.specs.declared.Door.{Door}
use Rattle.door.specs.declared.Refusal.{Refusal}
use Rattle.opening.specs.declared.Opening.{Opening}

-- what an offer or an answer comes to; a refusal leaves the door and its records as they are
abbrev pub opening_as : Result Opening Refusal → List ℕ → Door → Outcome
opening_as (Ok x) s before = outcome_as (reply_of (Ok x.reply) []) s x.door (effect_of x.change no_session)
opening_as (Err e) s before = outcome_as (reply_of (Err e) []) s before keep

-- a record that is taken leaves the pool
unfoldable pub taking : ℕ → ℕ → Effect
taking n j = cond (ltb j n) (remove j) keep
