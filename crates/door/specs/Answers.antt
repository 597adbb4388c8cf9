-- The answers of the code, in document 01's numbers and values.
use Rattle.std.specs.Prelude.{ℕ, List, Bool, replicate, Result, Ok, Err}
use Rattle.eno.specs.declared.SessionRecord.{SessionRecord}
use Rattle.door.specs.Door as d
use Rattle.eno.specs.Judge.{way_if}
use Rattle.door.specs.Door.{no_session}
use Rattle.door.specs.Outcome as o
use Rattle.door.specs.Outcome.{Outcome, Effect, keep, add, remove}
use Rattle.door.specs.declared.Door.{Door}
use Rattle.door.specs.declared.Refusal.{Refusal}
use Rattle.door.specs.declared.Refusal.TheVariants as refusal
use Rattle.door.specs.declared.Phase.{Phase}
use Rattle.door.specs.declared.Phase.TheVariants as phase
use Rattle.door.specs.declared.Reply.{Reply}
use Rattle.door.specs.declared.Reply.TheVariants as reply
use Rattle.door.specs.declared.Resulted.{Resulted}
use Rattle.door.specs.declared.Change.{Change}
use Rattle.door.specs.declared.Change.TheVariants as change

-- the numbers given back
abbrev pub refusal_number : Refusal → ℕ
refusal_number refusal.NoDoor = 1
refusal_number refusal.AreaTooLong = 2
refusal_number refusal.Unfit = 3
refusal_number refusal.OutOfTurn = 4
refusal_number refusal.NoRoom = 5
refusal_number refusal.Full = 6
refusal_number refusal.AlreadyHeld = 7
refusal_number refusal.NotHeld = 16

abbrev pub phase_as : Phase → d.Phase
phase_as phase.Idle = d.idle
phase_as phase.Offered = d.offering
phase_as phase.Crossed = d.crossed
phase_as phase.Answered = d.answering
phase_as phase.Open = d.opened
phase_as phase.Plain = d.unencrypted

-- a reply or a refusal, and the secret that stands beside it
abbrev pub reply_of : Result Reply Refusal → List ℕ → o.Reply
reply_of (Err r) secret = o.refused (refusal_number r)
reply_of (Ok (reply.Written n)) secret = o.written n
reply_of (Ok (reply.Plain n)) secret = o.plain n
reply_of (Ok (reply.Now p)) secret = o.now_in (phase_as p)
reply_of (Ok (reply.Encrypted role byte again n)) secret = o.encrypted role byte (way_if again) n secret
reply_of (Ok reply.Done) secret = o.done
reply_of (Ok (reply.Holds n)) secret = o.holds n

-- a result's reply with its secret, or its refusal
abbrev pub result_reply : Result Resulted Refusal → o.Reply
result_reply (Err r) = o.refused (refusal_number r)
result_reply (Ok r) = reply_of (Ok r.reply) r.secret

-- the secret that a result gives: zeros beside a refusal
abbrev pub result_secret : Result Resulted Refusal → List ℕ
result_secret (Err r) = replicate 32 0
result_secret (Ok r) = r.secret

-- a change, and the record that is added
abbrev pub effect_of : Change → SessionRecord → Effect
effect_of change.Keep r = keep
effect_of change.Add r = add r
effect_of (change.Remove j) r = remove j

abbrev pub outcome_as : o.Reply → List ℕ → Door → Effect → Outcome
outcome_as r s door e = record { reply = r; buffer = s; door = door; effect = e }

-- the record that stands beside a change: zeros where none is added
abbrev pub beside : Effect → SessionRecord
beside keep = no_session
beside (add r) = r
beside (remove j) = no_session

-- the secret that stands beside a reply: zeros where none is given
abbrev pub secret_beside : o.Reply → List ℕ
secret_beside (o.refused n) = replicate 32 0
secret_beside (o.written n) = replicate 32 0
secret_beside (o.plain n) = replicate 32 0
secret_beside (o.now_in p) = replicate 32 0
secret_beside (o.encrypted role byte way n secret) = secret
secret_beside o.done = replicate 32 0
secret_beside (o.holds n) = replicate 32 0
