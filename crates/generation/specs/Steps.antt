-- The generation record and its steps (document 01, "Frames and generations"; RFC 8548, 3.8), for any record.
use Rattle.std.specs.Prelude.{ℕ, ◌+◌, [], ◌∷◌, Bool, true, false, cond, not, ◌&&◌, ltb}
use Rattle.std.proofs.Math.Option.{Option, none, some}
use Rattle.refusals.specs.Rows.{refusal}
use Rattle.generation.specs.declared.GenerationRecord.{GenerationRecord}

-- the reply, in document 01's numbers and values
pub data Reply : Type 0 where
  refused : ℕ → Reply
  -- one frame is sent: its generation, and whether it carries rekey
  sent : (generation : ℕ) (rekey : Bool) → Reply
  -- a frame came: its generation
  received : (generation : ℕ) → Reply

pub record Outcome : Type 0 where
  pub reply : Reply
  -- the record afterwards
  pub next : GenerationRecord

-- a step, with whether the frame carries FINp, data, rekey
pub data Ask : Type 0 where
  send : (fin : Bool) → Ask
  initiate : (has_data fin : Bool) → Ask
  receive : (rekey : Bool) → Ask

-- all numbers start at 0
unfoldable pub first : GenerationRecord
first = record { local = 0; remote = 0; last = 0; fin = false }

-- and run to 65,535
unfoldable pub most_generation : ℕ
most_generation = 65535

-- local is above last-used
unfoldable pub is_above : GenerationRecord → Bool
is_above g = ltb g.last g.local

-- a rekey frame is owed while local is above last-used and FINp was not sent (RFC 8548, 3.8; change request iii)
unfoldable pub owed : GenerationRecord → Bool
owed g = is_above g && not g.fin

-- a sent frame uses last-used + 1 and rekey = 1 if local is above last-used, else last-used and rekey = 0
unfoldable pub sending : GenerationRecord → Bool → Outcome
sending g fin =
    cond (is_above g)
    (record { reply = sent (g.last + 1) true; next = record { local = g.local; remote = g.remote; last = g.last + 1; fin = fin } })
    (record { reply = sent g.last false; next = record { local = g.local; remote = g.remote; last = g.last; fin = fin } })

-- initiating adds one to local
unfoldable pub raised : GenerationRecord → GenerationRecord
raised g = record { local = g.local + 1; remote = g.remote; last = g.last; fin = g.fin }

-- if remote exceeds local, local follows
unfoldable pub following : (local remote : ℕ) → ℕ
following local remote = cond (ltb local remote) remote local

-- a received rekey adds one to remote
unfoldable pub receiving : GenerationRecord → Bool → Outcome
receiving g rekey =
    cond rekey
    (record { reply = received (g.remote + 1); next = record { local = following g.local (g.remote + 1); remote = g.remote + 1; last = g.last; fin = g.fin } })
    (record { reply = received g.remote; next = g })

-- what a step does unless it is refused; a refusal leaves the record as found
unfoldable pub unless : Option ℕ → GenerationRecord → Outcome → Outcome
unless none g else-this = else-this
unless (some n) g else-this = record { reply = refused n; next = g }

-- number 13 for a number that is raised by one
unfoldable pub would_pass : ℕ → Bool
would_pass n = ltb most_generation (n + 1)

unfoldable pub outcome : GenerationRecord → Ask → Outcome
outcome g (send fin) = unless (refusal ((is_above g && would_pass g.last, 13) ∷ (g.fin, 14) ∷ [])) g (sending g fin)
outcome g (initiate has_data fin) =
    unless (refusal ((owed g, 4) ∷ (would_pass g.local, 13) ∷ (g.fin, 14) ∷ (not has_data && ltb g.remote g.local, 15) ∷ [])) g
    (sending (raised g) fin)
outcome g (receive rekey) = unless (refusal ((rekey && would_pass g.remote, 13) ∷ [])) g (receiving g rekey)
