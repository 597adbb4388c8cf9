-- Numbers given back: document 01's table, rows 2 to 7 and 16, each in the row's words, arranged by number. The calls are defined without it.
use Rattle.std.specs.Prelude.{ℕ, List, [], ◌∷◌, Bool, true, false, cond, not, ◌&&◌, ◌||◌, ltb, leb, eqb, length}
use Rattle.std.proofs.Math.Option.{Option, none, some}
use Rattle.refusals.specs.Rows.{marked}
use Rattle.eno.specs.Tep.{is_known}
use Rattle.eno.specs.Session.{in_hand}
use Rattle.eno.specs.Option.{is_listed, offered, option_with}
use Rattle.door.specs.Numbers.{each_n}
use Rattle.door.specs.Door.{Phase, idle, offering, crossed, answering, opened, unencrypted, phase_of, phase_number, own_option, transcript_of, Seen}
use Rattle.door.specs.Record.{record_at}
use Rattle.door.specs.Offer.{offered_at}
use Rattle.door.specs.Answer.{answer_length}
use Rattle.door.specs.Answer as a
use Rattle.door.specs.Records.{is_held, is_in_hand}
use Rattle.door.specs.Calls.{Ask, offer, answer, receive, resend, result, close, store, forget, count}

-- the option area that a call brings, if any
unfoldable pub area_of : Ask → List ℕ
area_of (offer b aware mandatory list resume nonce s) = []
area_of (answer area aware mandatory list nonce s) = area
area_of (receive syn ack area) = area
area_of (resend s) = []
area_of (result s) = []
area_of close = []
area_of (store t role identifier secret) = []
area_of (forget t identifier) = []
area_of count = []

-- 2: option area above 40 bytes
unfoldable pub number2 : Ask → Bool
number2 k = ltb 40 (length (area_of k))

unfoldable pub is_repeated : List ℕ → Bool
is_repeated [] = false
is_repeated (t ∷ l) = is_listed t l || is_repeated l

unfoldable pub has_unknown : List ℕ → Bool
has_unknown [] = false
has_unknown (t ∷ l) = not (is_known t) || has_unknown l

-- TEP list empty, above four, repeated or unknown
unfoldable pub bad_list : List ℕ → Bool
bad_list l = eqb (length l) 0 || ltb 4 (length l) || (is_repeated l || has_unknown l)

-- 3: TEP list empty, above four, repeated or unknown; resumption nonce above 8; role not 0 or 1; mandatory without a; TEP unknown;
-- identifier or secret of another length
unfoldable pub number3 : Ask → Bool
number3 (offer b aware mandatory list resume nonce s) = bad_list list || ltb 8 (length nonce) || ltb 1 b || (mandatory && not aware)
number3 (answer area aware mandatory list nonce s) = bad_list list || ltb 8 (length nonce) || (mandatory && not aware)
number3 (receive syn ack area) = false
number3 (resend s) = false
number3 (result s) = false
number3 close = false
number3 (store t role identifier secret) = ltb 1 role || not (is_known t) || not (eqb (length identifier) 18) || not (eqb (length secret) 32)
number3 (forget t identifier) = not (is_known t) || not (eqb (length identifier) 18)
number3 count = false

abbrev xorb : Bool → Bool → Bool
xorb true b = not b
xorb false b = b

-- a phase is one of a list
abbrev same_phase : Phase → Phase → Bool
same_phase p q = eqb (phase_number p) (phase_number q)

unfoldable pub is_one : Phase → List Phase → Bool
is_one p [] = false
is_one p (q ∷ l) = same_phase p q || is_one p l

-- the phases in which a segment may be received, by its SYN and ACK flags
unfoldable pub may_receive : Phase → (syn ack : Bool) → Bool
may_receive idle syn ack = false
may_receive offering syn ack = syn
may_receive crossed syn ack = ack
may_receive answering syn ack = xorb syn ack
may_receive opened syn ack = true
may_receive unencrypted syn ack = true

-- 4: out of turn for the phase
unfoldable pub out_of_turn_in : Phase → Ask → Bool
out_of_turn_in p (offer b aware mandatory list resume nonce s) = not (is_one p (idle ∷ []))
out_of_turn_in p (answer area aware mandatory list nonce s) = not (is_one p (idle ∷ []))
out_of_turn_in p (receive syn ack area) = not (may_receive p syn ack)
out_of_turn_in p (resend s) = not (is_one p (offering ∷ crossed ∷ answering ∷ []))
out_of_turn_in p (result s) = not (is_one p (opened ∷ unencrypted ∷ []))
out_of_turn_in p close = false
out_of_turn_in p (store t role identifier secret) = false
out_of_turn_in p (forget t identifier) = false
out_of_turn_in p count = false

unfoldable pub number4 : Seen → Ask → Bool
number4 v k = out_of_turn_in (phase_of v.door.phase) k

-- the lent buffer, if any
unfoldable pub lent_of : Ask → List ℕ
lent_of (offer b aware mandatory list resume nonce s) = s
lent_of (answer area aware mandatory list nonce s) = s
lent_of (receive syn ack area) = []
lent_of (resend s) = s
lent_of (result s) = s
lent_of close = []
lent_of (store t role identifier secret) = []
lent_of (forget t identifier) = []
lent_of count = []

-- how many bytes are to be written
unfoldable pub to_write : Seen → Ask → ℕ
to_write v (offer b aware mandatory list resume nonce s) = length (option_with (offered b aware list (record_at v.held (offered_at resume list v.held)) nonce))
to_write v (answer area aware mandatory list nonce s) = answer_length v aware nonce (a.answering v mandatory area list)
to_write v (receive syn ack area) = 0
to_write v (resend s) = length (own_option v.door)
to_write v (result s) = cond (is_one (phase_of v.door.phase) (opened ∷ [])) (length (transcript_of v.door)) 0
to_write v close = 0
to_write v (store t role identifier secret) = 0
to_write v (forget t identifier) = 0
to_write v count = 0

-- 5: lent buffer shorter than what is to be written
unfoldable pub number5 : Seen → Ask → Bool
number5 v k = ltb (length (lent_of k)) (to_write v k)

-- 6: store: door holds four; or no row is free, which from an empty unit on is never so while it holds fewer
unfoldable pub number6 : Bool → Seen → Ask → Bool
number6 free v (offer b aware mandatory list resume nonce s) = false
number6 free v (answer area aware mandatory list nonce s) = false
number6 free v (receive syn ack area) = false
number6 free v (resend s) = false
number6 free v (result s) = false
number6 free v close = false
number6 free v (store t role identifier secret) = leb each_n (length v.held) || not free
number6 free v (forget t identifier) = false
number6 free v count = false

-- 7: store: same TEP and identifier held or in hand at this door
unfoldable pub number7 : Seen → Ask → Bool
number7 v (offer b aware mandatory list resume nonce s) = false
number7 v (answer area aware mandatory list nonce s) = false
number7 v (receive syn ack area) = false
number7 v (resend s) = false
number7 v (result s) = false
number7 v close = false
number7 v (store t role identifier secret) = is_held t identifier v.held || is_in_hand t identifier (in_hand v.door.hand)
number7 v (forget t identifier) = false
number7 v count = false

-- 16: forget: not held by this door
unfoldable pub number16 : Seen → Ask → Bool
number16 v (offer b aware mandatory list resume nonce s) = false
number16 v (answer area aware mandatory list nonce s) = false
number16 v (receive syn ack area) = false
number16 v (resend s) = false
number16 v (result s) = false
number16 v close = false
number16 v (store t role identifier secret) = false
number16 v (forget t identifier) = not (is_held t identifier v.held)
number16 v count = false

-- the rows, by number
unfoldable pub rows : Bool → Seen → Ask → List (Bool × ℕ)
rows free v k = (number2 k, 2) ∷ (number3 k, 3) ∷ (number4 v k, 4) ∷ (number5 v k, 5) ∷ (number6 free v k, 6) ∷ (number7 v k, 7) ∷ (number16 v k, 16) ∷ []

unfoldable pub applies : Bool → Seen → Ask → ℕ → Bool
applies free v k n = marked n (rows free v k)
