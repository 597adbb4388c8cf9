-- The nine calls of a door, as one function of what the door sees.
use Rattle.std.specs.Prelude.{ℕ, zero, suc, List, [], ◌∷◌, ◌++◌, Bool}
use Rattle.door.specs.Door.{Seen}
use Rattle.eno.specs.declared.SessionRecord.{SessionRecord}
use Rattle.door.specs.Outcome.{Outcome, Effect, keep, add, remove}
use Rattle.door.specs.Offer as o
use Rattle.door.specs.Answer as a
use Rattle.door.specs.Receive as r
use Rattle.door.specs.Records as k

-- a call with its values, bytes and lent buffer
pub data Ask : Type 0 where
  offer : (b : ℕ) (aware mandatory : Bool) (list : List ℕ) (resume : Bool) (nonce lent : List ℕ) → Ask
  answer : (area : List ℕ) (aware mandatory : Bool) (list nonce lent : List ℕ) → Ask
  receive : (syn ack : Bool) (area : List ℕ) → Ask
  resend : (lent : List ℕ) → Ask
  result : (lent : List ℕ) → Ask
  close : Ask
  store : (t role : ℕ) (identifier secret : List ℕ) → Ask
  forget : (t : ℕ) (identifier : List ℕ) → Ask
  count : Ask

-- what the call comes to; free says whether a row of the pool is free
unfoldable pub outcome : (free : Bool) → Seen → Ask → Outcome
outcome free v (offer b aware mandatory list resume nonce s) = o.offer v b aware mandatory list resume nonce s
outcome free v (answer area aware mandatory list nonce s) = a.answer v area aware mandatory list nonce s
outcome free v (receive syn ack area) = r.receive v.door syn ack area
outcome free v (resend s) = r.resend v.door s
outcome free v (result s) = r.result v.door s
outcome free v close = r.close
outcome free v (store t role identifier secret) = k.store free v t role identifier secret
outcome free v (forget t identifier) = k.forget v t identifier
outcome free v count = k.count v

-- a list without its j-th element
unfoldable pub cut : {X : Type 0} → ℕ → List X → List X
cut j [] = []
cut zero (x ∷ l) = l
cut (suc j) (x ∷ l) = x ∷ cut j l

-- the records after an effect
unfoldable pub effected : Effect → List SessionRecord → List SessionRecord
effected keep l = l
effected (add r) l = l ++ r ∷ []
effected (remove j) l = cut j l

-- what the door sees after a call
unfoldable pub after : Seen → Outcome → Seen
after v o = record { door = o.door; held = effected o.effect v.held }
