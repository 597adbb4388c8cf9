-- What the exported calls of the unit give back: a step's reply in plain numbers, its buffer in the lent one, its unit in the lent arrays.
use Rattle.std.specs.Prelude.{ℕ, ◌≡◌, List}
use Rattle.door.specs.Answers.{secret_beside}
use Rattle.unit.specs.Run.{Step}
use Rattle.unit.specs.declared.LinkUnit.{LinkUnit}
use Rattle.host_numbers.specs.Replies.{numbers_of}
use Rattle.host_reply.specs.declared.ReplyNumbers.{ReplyNumbers}
use Rattle.host_step.specs.declared.LinkResult.{LinkResult}

-- an exported call gives back a step's reply, leaves the lent buffer as the step does, and the arrays hold the step's unit
abbrev pub Gives : ReplyNumbers → (lent : List ℕ) → (after : LinkUnit) → Step → Type 0
Gives r lent u s = (r ≡ numbers_of s.told.reply) × (lent ≡ s.told.buffer) × (u ≡ s.unit)

-- a result's, with the secret: zeros where none is given
abbrev pub GivesResult : LinkResult → (lent : List ℕ) → (after : LinkUnit) → Step → Type 0
GivesResult r lent u s = (r.reply ≡ numbers_of s.told.reply) × (lent ≡ s.told.buffer) × (u ≡ s.unit) × (r.secret ≡ secret_beside s.told.reply)
