-- What the calls of a door enter in its ledger: by their arguments and replies, never by what they do with a row.
use Rattle.std.specs.Prelude.{ℕ, suc, Bool, true, false, cond, List, [], ◌∷◌, ◌++◌}
use Rattle.std.proofs.Math.Option.{Option, none, some}
use Rattle.eno.specs.declared.SessionRecord.{SessionRecord}
use Rattle.door.specs.Record.{first_that, is_session}
use Rattle.door.specs.Outcome.{Reply, refused, written, plain, now_in, encrypted, done, holds}
use Rattle.door.specs.Calls.{Ask, offer, answer, receive, resend, result, close, store, forget, count, cut}

-- a record stored, one forgotten by TEP and identifier, one taken in hand
pub data Entry : Type 0 where
  stored : SessionRecord → Entry
  forgotten : (t : ℕ) (identifier : List ℕ) → Entry
  taken : SessionRecord → Entry

abbrev pub is_done : Reply → Bool
is_done (refused n) = false
is_done (written n) = false
is_done (plain n) = false
is_done (now_in q) = false
is_done (encrypted role byte way n secret) = false
is_done done = true
is_done (holds n) = false

abbrev pub is_written : Reply → Bool
is_written (refused n) = false
is_written (written n) = true
is_written (plain n) = false
is_written (now_in q) = false
is_written (encrypted role byte way n secret) = false
is_written done = false
is_written (holds n) = false

abbrev pub taken_if : Option SessionRecord → List Entry
taken_if none = []
taken_if (some r) = taken r ∷ []

-- an accepted store, an accepted forget, and an accepted offer or answer that has a record in hand then, are entered, and nothing else
unfoldable pub entry : Ask → Reply → (hand : Option SessionRecord) → List Entry
entry (offer b aware mandatory list resume nonce s) x hand = cond (is_written x) (taken_if hand) []
entry (answer area aware mandatory list nonce s) x hand = cond (is_written x) (taken_if hand) []
entry (receive syn ack area) x hand = []
entry (resend s) x hand = []
entry (result s) x hand = []
entry close x hand = []
entry (store t role identifier secret) x hand = cond (is_done x) (stored (record { tep = t; role = role; identifier = identifier; secret = secret }) ∷ []) []
entry (forget t identifier) x hand = cond (is_done x) (forgotten t identifier ∷ []) []
entry count x hand = []

-- a list without its oldest record of that TEP and identifier
unfoldable pub less : ℕ → List ℕ → List SessionRecord → List SessionRecord
less t identifier l = cut (first_that (is_session t identifier) l) l

-- the records that stand, oldest first, after entries, newest first
unfoldable pub standing : List Entry → List SessionRecord
standing [] = []
standing (stored r ∷ es) = standing es ++ r ∷ []
standing (forgotten t identifier ∷ es) = less t identifier (standing es)
standing (taken r ∷ es) = less r.tep r.identifier (standing es)

-- how many were stored, forgotten, taken
unfoldable pub stored_in : List Entry → ℕ
stored_in [] = 0
stored_in (stored r ∷ es) = suc (stored_in es)
stored_in (forgotten t identifier ∷ es) = stored_in es
stored_in (taken r ∷ es) = stored_in es

unfoldable pub forgotten_in : List Entry → ℕ
forgotten_in [] = 0
forgotten_in (stored r ∷ es) = forgotten_in es
forgotten_in (forgotten t identifier ∷ es) = suc (forgotten_in es)
forgotten_in (taken r ∷ es) = forgotten_in es

unfoldable pub taken_in : List Entry → ℕ
taken_in [] = 0
taken_in (stored r ∷ es) = taken_in es
taken_in (forgotten t identifier ∷ es) = taken_in es
taken_in (taken r ∷ es) = suc (taken_in es)
