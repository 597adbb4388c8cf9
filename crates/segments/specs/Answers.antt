-- What receive answers, as the outcome of a door's call.
use Rattle.std.specs.Prelude.{[], Result, Ok, Err}
use Rattle.door.specs.Outcome.{Outcome, keep}
use Rattle.door.specs.Answers.{reply_of, outcome_as}
use Rattle.door.specs.declared.Door.{Door}
use Rattle.door.specs.declared.Refusal.{Refusal}
use Rattle.segments.specs.declared.Received.{Received}

-- the door afterwards with its reply; a refusal leaves the door as it was
abbrev pub received_as : Result Received Refusal → Door → Outcome
received_as (Ok x) d = outcome_as (reply_of (Ok x.reply) []) [] x.door keep
received_as (Err e) d = outcome_as (reply_of (Err e) []) [] d keep
