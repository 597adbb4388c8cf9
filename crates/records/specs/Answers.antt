-- What store and forget tell, as the outcome of a door's call.
use Rattle.std.specs.Prelude.{ℕ, ◌≡◌, [], Result, Ok, Err}
use Rattle.eno.specs.declared.SessionRecord.{SessionRecord}
use Rattle.door.specs.Door.{no_session}
use Rattle.door.specs.Outcome.{Outcome, done, refused, keep, add, remove}
use Rattle.door.specs.Answers.{refusal_number, outcome_as, beside}
use Rattle.door.specs.declared.Door.{Door}
use Rattle.door.specs.declared.Refusal.{Refusal}

-- a refusal changes nothing
unfoldable pub refused_store : Refusal → Result SessionRecord Refusal
refused_store why = Err why

-- what a store comes to: the record that is added, or the refusal; the door stays as it is
abbrev pub store_outcome : Result SessionRecord Refusal → Door → Outcome
store_outcome (Ok r) d = outcome_as done [] d (add r)
store_outcome (Err why) d = outcome_as (refused (refusal_number why)) [] d keep

-- the record that is added; zeros beside a refusal
abbrev pub added_by : Result SessionRecord Refusal → SessionRecord
added_by (Ok r) = r
added_by (Err why) = no_session

-- a door that stays as it is, and beside the change the record that is added, or zeros
pub record StoresAs (r : Result SessionRecord Refusal) (d : Door) (o : Outcome) : Type 0 where
  pub outcome : store_outcome r d ≡ o
  pub added : added_by r ≡ beside o.effect

-- what a forget comes to: the place of the record that is removed, or the refusal; the door stays as it is
abbrev pub forget_outcome : Result ℕ Refusal → Door → Outcome
forget_outcome (Ok place) d = outcome_as done [] d (remove place)
forget_outcome (Err why) d = outcome_as (refused (refusal_number why)) [] d keep
