-- What the host sees: the calls and what they gave back; and what it can tell from them of a door's records and connections.
use Rattle.std.specs.Prelude.{ℕ, ◌+◌, ◌≡◌, ◌↔◌, Bool, true, false, cond, not, ◌&&◌, ◌||◌, List, [], ◌∷◌, ◌++◌, eqb, take}
use Rattle.std.proofs.Math.Option.{Option, none, some}
use Rattle.wire.specs.Bytes.{same_bytes}
use Rattle.eno.specs.Area.{syn_option}
use Rattle.eno.specs.Tep.{is_known}
use Rattle.eno.specs.Suboption.{Sent, name}
use Rattle.eno.specs.Session.{sent_half, expected_half}
use Rattle.eno.specs.Judge.{is_resumed, is_resumption, half_of, teps_of}
use Rattle.eno.specs.declared.SessionRecord.{SessionRecord}
use Rattle.door.specs.Record.{first_that}
use Rattle.door.specs.Outcome.{Reply, refused, written, plain, now_in, encrypted, done, holds}
use Rattle.door.specs.Taking.{In}
use Rattle.door.specs.Calls.{Ask, offer, answer, receive, resend, result, close, store, forget, count, cut}
use Rattle.unit.specs.Unit.{empty_unit}
use Rattle.unit.specs.Run.{Call, on, erase, Told, step}
use Rattle.unit.specs.Resumption.{one, accepted_by}
use Rattle.unit.specs.Entries.{is_done, is_written, less}
use Rattle.unit.specs.declared.LinkUnit.{LinkUnit}

-- a call and what it gave back: its reply and the whole of its lent buffer
pub record Exchange : Type 0 where
  pub call : Call
  pub told : Told

unfoldable pub exchanges_from : LinkUnit → List Exchange → List Call → List Exchange
exchanges_from u es [] = es
exchanges_from u es (c ∷ cs) = exchanges_from (step u c).unit (record { call = c; told = (step u c).told } ∷ es) cs

-- all that the host sees of a list of calls from the empty unit, newest first
unfoldable pub exchanges : List Call → List Exchange
exchanges cs = exchanges_from empty_unit [] cs

-- the option o has the resumption suboption x, of a known TEP
pub record Resumption (o : List ℕ) (x : Sent) : Type 0 where
  pub among : In x (teps_of o)
  pub known : is_known (name x) ≡ true
  pub is_resumption_lem : is_resumption x ≡ true

-- an offer or an answer
abbrev pub is_opening : Ask → Bool
is_opening (offer b aware mandatory list resume nonce s) = true
is_opening (answer area aware mandatory list nonce s) = true
is_opening (receive syn ack area) = false
is_opening (resend s) = false
is_opening (result s) = false
is_opening close = false
is_opening (store t role identifier secret) = false
is_opening (forget t identifier) = false
is_opening count = false

-- a record is taken exactly when the option has one, and it has that suboption's TEP and sends its half
pub record TakenAsWritten (o : List ℕ) (hand : Option SessionRecord) : Type 0 where
  pub exactly : ((r : SessionRecord) × (hand ≡ some r)) ↔ ((x : Sent) × Resumption o x)
  pub that_one : (r : SessionRecord) (x : Sent) → hand ≡ some r → Resumption o x → (r.tep ≡ name x) × (sent_half r ≡ half_of o x)

-- the first resumption suboption of a known TEP
unfoldable pub resumption_in : List Sent → Option Sent
resumption_in [] = none
resumption_in (x ∷ l) = cond (is_known (name x) && is_resumption x) (some x) (resumption_in l)

-- the first suboption of the TEP t
unfoldable pub sent_for : ℕ → List Sent → Option Sent
sent_for t [] = none
sent_for t (x ∷ l) = cond (eqb (name x) t) (some x) (sent_for t l)

-- the identifier half that the option p sends for the TEP t
abbrev half_by : List ℕ → Option Sent → List ℕ
half_by p none = []
half_by p (some x) = half_of p x

unfoldable pub half_for : List ℕ → ℕ → List ℕ
half_for p t = half_by p (sent_for t (teps_of p))

-- records less the oldest that has the TEP of a resumption suboption of the option o, sends its half, and passes a test
abbrev less_by : List ℕ → (ℕ → SessionRecord → Bool) → List SessionRecord → Option Sent → List SessionRecord
less_by o fits l none = l
less_by o fits l (some x) = cut (first_that (λ r. eqb r.tep (name x) && (same_bytes (sent_half r) (half_of o x) && fits (name x) r)) l) l

unfoldable pub less_resumed : List ℕ → (ℕ → SessionRecord → Bool) → List SessionRecord → List SessionRecord
less_resumed o fits l = less_by o fits l (resumption_in (teps_of o))

-- after an offer any record will do; after an answer one that expects the half that the other side sent
abbrev pub of_offer : ℕ → SessionRecord → Bool
of_offer t r = true

abbrev pub of_answer : List ℕ → ℕ → SessionRecord → Bool
of_answer area t r = same_bytes (expected_half r) (half_for (syn_option area) t)

-- where a call says that it wrote n bytes
abbrev pub where_written : {X : Type 0} → Reply → (ℕ → X) → X → X
where_written (refused n) f x = x
where_written (written n) f x = f n
where_written (plain n) f x = x
where_written (now_in q) f x = x
where_written (encrypted role byte way n secret) f x = x
where_written done f x = x
where_written (holds n) f x = x

-- the records that a door holds after a call of its own, from those before it: an accepted store adds, an accepted forget removes,
-- and what an offer or answer wrote into its first n bytes tells which record it took
unfoldable pub records_after : List SessionRecord → Ask → Told → List SessionRecord
records_after l (offer b aware mandatory list resume nonce s) t = where_written t.reply (λ n. less_resumed (syn_option (take n t.buffer)) of_offer l) l
records_after l (answer area aware mandatory list nonce s) t = where_written t.reply (λ n. less_resumed (syn_option (take n t.buffer)) (of_answer area) l) l
records_after l (receive syn ack area) t = l
records_after l (resend s) t = l
records_after l (result s) t = l
records_after l close t = l
records_after l (store u role identifier secret) t = cond (is_done t.reply) (l ++ record { tep = u; role = role; identifier = identifier; secret = secret } ∷ []) l
records_after l (forget u identifier) t = cond (is_done t.reply) (less u identifier l) l
records_after l count t = l

abbrev records_then : ℕ → List SessionRecord → Call → Told → List SessionRecord
records_then d l erase t = []
records_then d l (on e a) t = cond (eqb e d) (records_after l a t) l

-- the ledger of door d by what the host sees: records, oldest first
unfoldable pub ledger_seen : ℕ → List Exchange → List SessionRecord
ledger_seen d [] = []
ledger_seen d (x ∷ older) = records_then d (ledger_seen d older) x.call x.told

-- a result that says resumed, with a secret that passes a test
abbrev resumed_with : (List ℕ → Bool) → Reply → Bool
resumed_with p (refused n) = false
resumed_with p (written n) = false
resumed_with p (plain n) = false
resumed_with p (now_in q) = false
resumed_with p (encrypted role byte way n secret) = is_resumed way && p secret
resumed_with p done = false
resumed_with p (holds n) = false

abbrev pub says_resumed : (List ℕ → Bool) → Ask → Reply → Bool
says_resumed p (offer b aware mandatory list resume nonce s) x = false
says_resumed p (answer area aware mandatory list nonce s) x = false
says_resumed p (receive syn ack area) x = false
says_resumed p (resend s) x = false
says_resumed p (result s) x = resumed_with p x
says_resumed p close x = false
says_resumed p (store t role identifier secret) x = false
says_resumed p (forget t identifier) x = false
says_resumed p count x = false

-- a connection begins with an offer or answer that writes, and ends with close (or erase)
abbrev pub begins_or_ends : Ask → Reply → Bool
begins_or_ends (offer b aware mandatory list resume nonce s) x = is_written x
begins_or_ends (answer area aware mandatory list nonce s) x = is_written x
begins_or_ends (receive syn ack area) x = false
begins_or_ends (resend s) x = false
begins_or_ends (result s) x = false
begins_or_ends close x = true
begins_or_ends (store t role identifier secret) x = false
begins_or_ends (forget t identifier) x = false
begins_or_ends count x = false

abbrev said_then : (List ℕ → Bool) → ℕ → Bool → Call → Reply → Bool
said_then p d said erase x = false
said_then p d said (on e a) x = cond (eqb e d) (cond (begins_or_ends a x) false (says_resumed p a x || said)) said

-- whether a result of door d's connection has said so
unfoldable pub has_said : (List ℕ → Bool) → ℕ → List Exchange → Bool
has_said p d [] = false
has_said p d (x ∷ older) = said_then p d (has_said p d older) x.call x.told.reply

abbrev resumed_now : (List ℕ → Bool) → ℕ → Bool → Call → Reply → ℕ
resumed_now p d said erase x = 0
resumed_now p d said (on e a) x = cond (eqb e d) (one (says_resumed p a x && not said)) 0

-- how many results of door d say so, those of one connection counted once
unfoldable pub resumed_seen : (List ℕ → Bool) → ℕ → List Exchange → ℕ
resumed_seen p d [] = 0
resumed_seen p d (x ∷ older) = resumed_now p d (has_said p d older) x.call x.told.reply + resumed_seen p d older

abbrev stored_now : (SessionRecord → Bool) → ℕ → Call → Reply → ℕ
stored_now p d erase x = 0
stored_now p d (on e a) x = cond (eqb e d) (accepted_by p a x) 0

-- how many stores of door d are accepted, of records that pass a test
unfoldable pub stores_seen : (SessionRecord → Bool) → ℕ → List Exchange → ℕ
stores_seen p d [] = 0
stores_seen p d (x ∷ older) = stored_now p d x.call x.told.reply + stores_seen p d older
