-- Runs of one door: one table, one claim about all rows.
use Rattle.std.specs.Prelude.{ℕ, ◌≡◌, List, [], ◌∷◌, ◌++◌, true, false, replicate}
use Rattle.eno.specs.Cause.{numbered}
use Rattle.eno.specs.declared.Cause.{Cause}
use Rattle.eno.specs.Judge.{fresh, resumed}
use Rattle.door.specs.Door.{crossed, answering, opened, idle_door, Seen}
use Rattle.door.specs.Outcome.{Reply, refused, written, plain, now_in, encrypted, done, holds}
use Rattle.door.specs.Calls.{Ask, offer, answer, receive, resend, result, close, store, forget, count, outcome, after}

-- what each call of a list gives back, from a door on
unfoldable pub replies_of : Seen → List Ask → List Reply
replies_of v [] = []
replies_of v (a ∷ l) = let o = outcome true v a in o.reply ∷ replies_of (after v o) l

-- the lent buffer that the last call leaves
unfoldable pub last_buffer : Seen → List Ask → List ℕ
last_buffer v [] = []
last_buffer v (a ∷ []) = (outcome true v a).buffer
last_buffer v (a ∷ b ∷ l) = last_buffer (after v (outcome true v a)) (b ∷ l)

unfoldable pub empty_seen : Seen
empty_seen = record { door = idle_door; held = [] }

pub record Run : Type 0 where
  pub calls : List Ask
  pub replies : List Reply
  pub bytes : List ℕ

-- what the definitions give for the calls of a run
unfoldable pub told : Run → Run
told r = record { calls = r.calls; replies = replies_of empty_seen r.calls; bytes = last_buffer empty_seen r.calls }

abbrev run : List Ask → List Reply → List ℕ → Run
run calls replies bytes = record { calls = calls; replies = replies; bytes = bytes }

abbrev low_half : List ℕ
low_half = 0 ∷ 1 ∷ 2 ∷ 3 ∷ 4 ∷ 5 ∷ 6 ∷ 7 ∷ 8 ∷ []

abbrev high_half : List ℕ
high_half = 9 ∷ 10 ∷ 11 ∷ 12 ∷ 13 ∷ 14 ∷ 15 ∷ 16 ∷ 17 ∷ []

abbrev secret_r : List ℕ
secret_r = replicate 32 0x5a

-- R is TEP 23, role A, identifier 00 01 .. 11
abbrev store_r : Ask
store_r = store 0x23 0 (low_half ++ high_half) secret_r

-- records of other TEPs: P of TEP 21, role A, sends c1 and expects c2; Q of TEP 24, role B, sends d2 and expects d1
abbrev nine : ℕ → List ℕ
nine x = replicate 9 x

abbrev store_p : Ask
store_p = store 0x21 0 (nine 0xc1 ++ nine 0xc2) (replicate 32 0x50)

abbrev store_q : Ask
store_q = store 0x24 1 (nine 0xd1 ++ nine 0xd2) (replicate 32 0x51)

-- S is of TEP 23, sends e1 and expects what R expects
abbrev store_s : Ask
store_s = store 0x23 0 (nine 0xe1 ++ high_half) (replicate 32 0x53)

abbrev room : ℕ → List ℕ
room n = replicate n 0xee

abbrev no_secret : List ℕ
no_secret = replicate 32 0

-- segments
abbrev syn : List ℕ → Ask
syn area = receive true false area

abbrev syn_ack : List ℕ → Ask
syn_ack area = receive true true area

abbrev ack : List ℕ → Ask
ack area = receive false true area

abbrev neither : List ℕ → Ask
neither area = receive false false area

abbrev k_a : List ℕ
k_a = 0x45 ∷ 4 ∷ 0x21 ∷ 0x23 ∷ []

abbrev k_b : List ℕ
k_b = 0x45 ∷ 4 ∷ 1 ∷ 0x23 ∷ []

-- with a = 1
abbrev a_a : List ℕ
a_a = 0x45 ∷ 5 ∷ 2 ∷ 0x21 ∷ 0x23 ∷ []

abbrev a_b : List ℕ
a_b = 0x45 ∷ 4 ∷ 3 ∷ 0x23 ∷ []

-- the ways into the phases
abbrev to_offered : Ask
to_offered = offer 0 false false (0x21 ∷ 0x23 ∷ []) false [] (room 4)

abbrev to_answered : Ask
to_answered = answer k_a false false (0x23 ∷ []) [] (room 4)

abbrev plus : List ℕ → List ℕ
plus o = 1 ∷ 1 ∷ o

abbrev faulty : List ℕ
faulty = 0x45 ∷ 3 ∷ 0x23 ∷ 2 ∷ []

abbrev broken_at : (place kind : ℕ) → Cause
broken_at i k = record { reason = 1; place = i; kind = k }

-- place 3, kind 02
abbrev broken : Cause
broken = broken_at 3 2

-- place 6, kind 08
abbrev shortened : List ℕ
shortened = 1 ∷ 1 ∷ 2 ∷ 4 ∷ 5 ∷ 0xb4 ∷ 8 ∷ []

abbrev other : List ℕ
other = 0x45 ∷ 4 ∷ 1 ∷ 0x21 ∷ []

abbrev ill_formed : List ℕ
ill_formed = 0x45 ∷ 4 ∷ 0x80 ∷ 0x21 ∷ []

-- A's resumption of TEP 21, as P expects it, and of TEP 23, as R does
abbrev both : List ℕ
both = 0x45 ∷ 23 ∷ 0x88 ∷ 0xa1 ∷ nine 0xc2 ++ 0xa3 ∷ high_half

unfoldable pub runs : List Run
runs =
    -- K1 through offer, receive, result; a result is out of turn before Open
    run (to_offered ∷ result (room 8) ∷ syn_ack k_b ∷ result (room 8) ∷ []) (written 4 ∷ refused 4 ∷ now_in opened ∷ encrypted 0 0x23 fresh 8 no_secret ∷ []) (k_a ++ k_b)
    -- and through answer, receive, result
    ∷ run (to_answered ∷ result (room 8) ∷ ack (0x45 ∷ 2 ∷ []) ∷ result (room 8) ∷ []) (written 4 ∷ refused 4 ∷ now_in opened ∷ encrypted 1 0x23 fresh 8 no_secret ∷ []) (k_a ++ k_b)
    -- K2 from both ends: the last valid TEP of B's option
    ∷ run (offer 0 false false (0x21 ∷ 0x23 ∷ 0x24 ∷ []) false [] (room 5) ∷ syn_ack (0x45 ∷ 5 ∷ 1 ∷ 0x23 ∷ 0x21 ∷ []) ∷ result (room 12) ∷ [])
    (written 5 ∷ now_in opened ∷ encrypted 0 0x21 fresh 10 no_secret ∷ [])
    (0x45 ∷ 5 ∷ 0x21 ∷ 0x23 ∷ 0x24 ∷ 0x45 ∷ 5 ∷ 1 ∷ 0x23 ∷ 0x21 ∷ 0xee ∷ 0xee ∷ [])
    ∷ run (answer (0x45 ∷ 5 ∷ 0x21 ∷ 0x23 ∷ 0x24 ∷ []) false false (0x23 ∷ 0x21 ∷ []) [] (room 4) ∷ ack (0x45 ∷ 2 ∷ []) ∷ result (room 9) ∷ [])
    (written 4 ∷ now_in opened ∷ encrypted 1 0x21 fresh 9 no_secret ∷ [])
    (0x45 ∷ 5 ∷ 0x21 ∷ 0x23 ∷ 0x24 ∷ 0x45 ∷ 4 ∷ 1 ∷ 0x21 ∷ [])
    -- result gives 4 in Idle and in Crossed
    ∷ run (result (room 8) ∷ to_offered ∷ syn k_b ∷ result (room 8) ∷ []) (refused 4 ∷ written 4 ∷ now_in crossed ∷ refused 4 ∷ []) (room 8)
    -- R stored, offered
    ∷ run (store_r ∷ count ∷ offer 0 false false (0x21 ∷ 0x23 ∷ []) true [] (room 13) ∷ []) (done ∷ holds 1 ∷ written 13 ∷ []) (0x45 ∷ 13 ∷ 0x21 ∷ 0xa3 ∷ low_half)
    -- answered 45 0d 01 a3 09 .. 11: resumed, with R's secret, and R is gone from the pool
    ∷ run (store_r ∷ offer 0 false false (0x21 ∷ 0x23 ∷ []) true [] (room 13) ∷ syn_ack (0x45 ∷ 13 ∷ 1 ∷ 0xa3 ∷ high_half) ∷ count ∷ store_r ∷ result (room 26) ∷ [])
    (done ∷ written 13 ∷ now_in opened ∷ holds 0 ∷ refused 7 ∷ encrypted 0 0xa3 resumed 26 secret_r ∷ [])
    (0x45 ∷ 13 ∷ 0x21 ∷ 0xa3 ∷ low_half ++ 0x45 ∷ 13 ∷ 1 ∷ 0xa3 ∷ high_half)
    -- answered 45 0d 01 a3 00 .. 08: reason 6
    ∷ run (store_r ∷ offer 0 false false (0x21 ∷ 0x23 ∷ []) true [] (room 13) ∷ syn_ack (0x45 ∷ 13 ∷ 1 ∷ 0xa3 ∷ low_half) ∷ result [] ∷ count ∷ [])
    (done ∷ written 13 ∷ plain (numbered 6) ∷ plain (numbered 6) ∷ holds 0 ∷ []) []
    -- answered 45 04 01 23: fresh, and R is gone: it may be stored again
    ∷ run (store_r ∷ offer 0 false false (0x21 ∷ 0x23 ∷ []) true [] (room 13) ∷ syn_ack k_b ∷ count ∷ store_r ∷ result (room 17) ∷ [])
    (done ∷ written 13 ∷ now_in opened ∷ holds 0 ∷ done ∷ encrypted 0 0x23 fresh 17 no_secret ∷ [])
    (0x45 ∷ 13 ∷ 0x21 ∷ 0xa3 ∷ low_half ++ k_b)
    -- a resumed answer, and the fifth record
    ∷ run (store_r ∷ answer (0x45 ∷ 13 ∷ 0x21 ∷ 0xa3 ∷ high_half) false false (0x21 ∷ 0x23 ∷ []) (7 ∷ []) (room 14) ∷ ack (0x45 ∷ 2 ∷ []) ∷ result (room 27) ∷ [])
    (done ∷ written 14 ∷ now_in opened ∷ encrypted 1 0xa3 resumed 27 secret_r ∷ [])
    (0x45 ∷ 13 ∷ 0x21 ∷ 0xa3 ∷ high_half ++ 0x45 ∷ 14 ∷ 1 ∷ 0xa3 ∷ low_half ++ 7 ∷ [])
    ∷ run (store 0x21 0 (replicate 18 1) secret_r ∷ store 0x21 0 (replicate 18 2) secret_r ∷ store 0x21 0 (replicate 18 3) secret_r ∷ store 0x21 1 (replicate 18 1) secret_r ∷ store 0x22 1 (replicate 18 1) secret_r ∷ store_r ∷ forget 0x21 (replicate 18 2) ∷ forget 0x21 (replicate 18 2) ∷ count ∷ close ∷ count ∷ [])
    (done ∷ done ∷ done ∷ refused 7 ∷ done ∷ refused 6 ∷ done ∷ refused 16 ∷ holds 3 ∷ done ∷ holds 3 ∷ []) []
    -- a is bit 1 of the global byte: written, and read from the other side
    ∷ run (offer 0 true false (0x21 ∷ 0x23 ∷ []) false [] (room 5) ∷ []) (written 5 ∷ []) a_a
    ∷ run (offer 0 true true (0x21 ∷ 0x23 ∷ []) false [] (room 5) ∷ syn_ack a_b ∷ result (room 9) ∷ []) (written 5 ∷ now_in opened ∷ encrypted 0 0x23 fresh 9 no_secret ∷ []) (a_a ++ a_b)
    ∷ run (offer 0 true true (0x21 ∷ 0x23 ∷ []) false [] (room 5) ∷ syn_ack (0x45 ∷ 4 ∷ 5 ∷ 0x23 ∷ []) ∷ []) (written 5 ∷ plain (numbered 5) ∷ []) []
    ∷ run (answer a_a true true (0x23 ∷ []) [] (room 4) ∷ []) (written 4 ∷ []) a_b
    -- an offer takes the oldest record of a listed TEP
    ∷ run (store_p ∷ store_r ∷ offer 0 false false (0x23 ∷ 0x21 ∷ []) true [] (room 13) ∷ []) (done ∷ done ∷ written 13 ∷ []) (0x45 ∷ 13 ∷ 0x23 ∷ 0xa1 ∷ nine 0xc1)
    ∷ run (store_r ∷ store_p ∷ offer 0 false false (0x23 ∷ 0x21 ∷ []) true [] (room 13) ∷ []) (done ∷ done ∷ written 13 ∷ []) (0x45 ∷ 13 ∷ 0x21 ∷ 0xa3 ∷ low_half)
    ∷ run (store_s ∷ store_r ∷ offer 0 false false (0x23 ∷ []) true [] (room 12) ∷ count ∷ resend (room 12) ∷ []) (done ∷ done ∷ written 12 ∷ holds 1 ∷ written 12 ∷ []) (0x45 ∷ 12 ∷ 0xa3 ∷ nine 0xe1)
    -- an older one of a TEP that is not listed stays
    ∷ run (store_q ∷ store_p ∷ store_r ∷ offer 0 false false (0x23 ∷ 0x21 ∷ []) true [] (room 13) ∷ forget 0x24 (nine 0xd1 ++ nine 0xd2) ∷ forget 0x23 (low_half ++ high_half) ∷ count ∷ resend (room 13) ∷ [])
    (done ∷ done ∷ done ∷ written 13 ∷ done ∷ done ∷ holds 0 ∷ written 13 ∷ [])
    (0x45 ∷ 13 ∷ 0x23 ∷ 0xa1 ∷ nine 0xc1)
    ∷ run (store_q ∷ store_p ∷ store_r ∷ offer 0 false false (0x23 ∷ []) true [] (room 12) ∷ []) (done ∷ done ∷ done ∷ written 12 ∷ []) (0x45 ∷ 12 ∷ 0xa3 ∷ low_half)
    -- none is of a listed TEP; and an offer that does not resume: all stay
    ∷ run (store_p ∷ store_r ∷ offer 0 false false (0x22 ∷ 0x24 ∷ []) true [] (room 4) ∷ count ∷ resend (room 4) ∷ []) (done ∷ done ∷ written 4 ∷ holds 2 ∷ written 4 ∷ []) (0x45 ∷ 4 ∷ 0x22 ∷ 0x24 ∷ [])
    ∷ run (store_p ∷ store_r ∷ to_offered ∷ count ∷ resend (room 4) ∷ []) (done ∷ done ∷ written 4 ∷ holds 2 ∷ written 4 ∷ []) k_a
    -- an answer: one that can be resumed comes before a later listed one that cannot
    ∷ run (store_p ∷ store_r ∷ answer (0x45 ∷ 13 ∷ 0x24 ∷ 0xa3 ∷ high_half) false false (0x23 ∷ 0x24 ∷ []) [] (room 13) ∷ []) (done ∷ done ∷ written 13 ∷ []) (0x45 ∷ 13 ∷ 1 ∷ 0xa3 ∷ low_half)
    -- of two that can be resumed the last listed
    ∷ run (store_p ∷ store_r ∷ answer both false false (0x21 ∷ 0x23 ∷ []) [] (room 13) ∷ []) (done ∷ done ∷ written 13 ∷ []) (0x45 ∷ 13 ∷ 1 ∷ 0xa3 ∷ low_half)
    ∷ run (store_p ∷ store_r ∷ answer both false false (0x23 ∷ 0x21 ∷ []) [] (room 13) ∷ count ∷ resend (room 13) ∷ []) (done ∷ done ∷ written 13 ∷ holds 1 ∷ written 13 ∷ []) (0x45 ∷ 13 ∷ 1 ∷ 0xa1 ∷ nine 0xc1)
    -- of two that fit the oldest
    ∷ run (store_q ∷ store_s ∷ store_r ∷ answer (0x45 ∷ 12 ∷ 0xa3 ∷ high_half) false false (0x23 ∷ []) [] (room 13) ∷ forget 0x23 (low_half ++ high_half) ∷ count ∷ resend (room 13) ∷ [])
    (done ∷ done ∷ done ∷ written 13 ∷ done ∷ holds 1 ∷ written 13 ∷ [])
    (0x45 ∷ 13 ∷ 1 ∷ 0xa3 ∷ nine 0xe1)
    -- none can be resumed: the last listed that was sent once and not bad, and all stay
    ∷ run (store_p ∷ store_r ∷ answer (0x45 ∷ 14 ∷ 0x21 ∷ 0x24 ∷ 0xa3 ∷ low_half) false false (0x24 ∷ 0x21 ∷ 0x22 ∷ []) [] (room 4) ∷ count ∷ resend (room 4) ∷ [])
    (done ∷ done ∷ written 4 ∷ holds 2 ∷ written 4 ∷ [])
    (0x45 ∷ 4 ∷ 1 ∷ 0x21 ∷ [])
    -- the receive table, row by row: Idle
    ∷ run (syn k_b ∷ syn_ack k_b ∷ ack k_b ∷ neither k_b ∷ neither (replicate 41 1) ∷ []) (refused 4 ∷ refused 4 ∷ refused 4 ∷ refused 4 ∷ refused 2 ∷ []) []
    -- Offered
    ∷ run (to_offered ∷ ack k_b ∷ neither k_b ∷ syn (plus k_b) ∷ []) (written 4 ∷ refused 4 ∷ refused 4 ∷ now_in crossed ∷ []) []
    ∷ run (to_offered ∷ syn faulty ∷ neither k_b ∷ result [] ∷ result [] ∷ []) (written 4 ∷ plain broken ∷ plain broken ∷ plain broken ∷ plain broken ∷ []) []
    ∷ run (to_offered ∷ syn_ack [] ∷ []) (written 4 ∷ plain (numbered 2) ∷ []) []
    ∷ run (to_offered ∷ syn_ack ill_formed ∷ []) (written 4 ∷ plain (numbered 3) ∷ []) []
    ∷ run (to_offered ∷ syn k_a ∷ []) (written 4 ∷ plain (numbered 4) ∷ []) []
    ∷ run (offer 0 true true (0x21 ∷ 0x23 ∷ []) false [] (room 5) ∷ syn_ack k_b ∷ []) (written 5 ∷ plain (numbered 5) ∷ []) []
    ∷ run (to_offered ∷ syn (0x45 ∷ 4 ∷ 1 ∷ 0x24 ∷ []) ∷ []) (written 4 ∷ plain (numbered 6) ∷ []) []
    -- Crossed
    ∷ run (to_offered ∷ syn k_b ∷ syn k_b ∷ neither k_b ∷ syn_ack (plus k_b) ∷ []) (written 4 ∷ now_in crossed ∷ refused 4 ∷ refused 4 ∷ now_in opened ∷ []) []
    ∷ run (to_offered ∷ syn k_b ∷ syn_ack faulty ∷ []) (written 4 ∷ now_in crossed ∷ plain broken ∷ []) []
    ∷ run (to_offered ∷ syn k_b ∷ syn_ack [] ∷ []) (written 4 ∷ now_in crossed ∷ plain (numbered 2) ∷ []) []
    ∷ run (to_offered ∷ syn k_b ∷ syn_ack ill_formed ∷ []) (written 4 ∷ now_in crossed ∷ plain (numbered 3) ∷ []) []
    ∷ run (to_offered ∷ syn k_b ∷ syn_ack other ∷ []) (written 4 ∷ now_in crossed ∷ plain (numbered 7) ∷ []) []
    ∷ run (to_offered ∷ syn k_b ∷ ack ill_formed ∷ []) (written 4 ∷ now_in crossed ∷ now_in opened ∷ []) []
    ∷ run (to_offered ∷ syn k_b ∷ ack faulty ∷ []) (written 4 ∷ now_in crossed ∷ plain broken ∷ []) []
    ∷ run (to_offered ∷ syn k_b ∷ ack [] ∷ []) (written 4 ∷ now_in crossed ∷ plain (numbered 2) ∷ []) []
    -- Answered
    ∷ run (to_answered ∷ syn_ack k_a ∷ neither k_a ∷ syn (plus k_a) ∷ ack (k_a ++ k_a) ∷ []) (written 4 ∷ refused 4 ∷ refused 4 ∷ now_in answering ∷ now_in opened ∷ []) []
    ∷ run (to_answered ∷ syn faulty ∷ []) (written 4 ∷ plain broken ∷ []) []
    ∷ run (to_answered ∷ syn (k_a ++ k_a) ∷ []) (written 4 ∷ plain (numbered 2) ∷ []) []
    ∷ run (to_answered ∷ syn ill_formed ∷ []) (written 4 ∷ plain (numbered 3) ∷ []) []
    ∷ run (to_answered ∷ syn other ∷ []) (written 4 ∷ plain (numbered 7) ∷ []) []
    ∷ run (to_answered ∷ ack faulty ∷ []) (written 4 ∷ plain broken ∷ []) []
    ∷ run (to_answered ∷ ack [] ∷ []) (written 4 ∷ plain (numbered 2) ∷ []) []
    -- an answer that ends in Plain, by each reason, and writes nothing
    ∷ run (answer faulty false false (0x23 ∷ []) [] (room 4) ∷ result [] ∷ []) (plain broken ∷ plain broken ∷ []) []
    ∷ run (answer faulty false false (0x23 ∷ []) [] (room 4) ∷ []) (plain broken ∷ []) (room 4)
    ∷ run (answer [] false false (0x23 ∷ []) [] (room 4) ∷ []) (plain (numbered 2) ∷ []) (room 4)
    ∷ run (answer (k_a ++ k_a) false false (0x23 ∷ []) [] (room 4) ∷ []) (plain (numbered 2) ∷ []) (room 4)
    ∷ run (answer ill_formed false false (0x23 ∷ []) [] (room 4) ∷ []) (plain (numbered 3) ∷ []) (room 4)
    ∷ run (answer k_b false false (0x23 ∷ []) [] (room 4) ∷ []) (plain (numbered 4) ∷ []) (room 4)
    ∷ run (answer k_b true true (0x23 ∷ []) [] (room 4) ∷ []) (plain (numbered 4) ∷ []) (room 4)
    ∷ run (answer k_a true true (0x23 ∷ []) [] (room 4) ∷ []) (plain (numbered 5) ∷ []) (room 4)
    ∷ run (answer k_a false false (0x22 ∷ 0x24 ∷ []) [] (room 4) ∷ []) (plain (numbered 6) ∷ []) (room 4)
    -- Open and Plain: no change, whatever the segment; but an area above 40 bytes is refused
    ∷ run (to_offered ∷ syn_ack k_b ∷ syn faulty ∷ syn_ack [] ∷ ack [] ∷ neither faulty ∷ syn (replicate 41 1) ∷ result (room 8) ∷ [])
    (written 4 ∷ now_in opened ∷ now_in opened ∷ now_in opened ∷ now_in opened ∷ now_in opened ∷ refused 2 ∷ encrypted 0 0x23 fresh 8 no_secret ∷ [])
    (k_a ++ k_b)
    ∷ run (to_offered ∷ syn_ack [] ∷ syn k_b ∷ syn_ack k_b ∷ ack k_b ∷ neither k_b ∷ ack (replicate 41 1) ∷ result [] ∷ [])
    (written 4 ∷ plain (numbered 2) ∷ plain (numbered 2) ∷ plain (numbered 2) ∷ plain (numbered 2) ∷ plain (numbered 2) ∷ refused 2 ∷ plain (numbered 2) ∷ [])
    []
    -- an unreadable area: place and kind, from each call that meets it, and from receive and result after it, as often as they are asked
    ∷ run (answer faulty false false (0x23 ∷ []) [] [] ∷ result [] ∷ syn shortened ∷ ack [] ∷ result (room 3) ∷ result (room 3) ∷ [])
    (plain broken ∷ plain broken ∷ plain broken ∷ plain broken ∷ plain broken ∷ plain broken ∷ []) (room 3)
    ∷ run (to_offered ∷ syn_ack shortened ∷ syn faulty ∷ result [] ∷ result [] ∷ []) (written 4 ∷ plain (broken_at 6 8) ∷ plain (broken_at 6 8) ∷ plain (broken_at 6 8) ∷ plain (broken_at 6 8) ∷ []) []
    ∷ run (to_offered ∷ syn k_b ∷ syn_ack (0x45 ∷ 1 ∷ []) ∷ result [] ∷ ack faulty ∷ result [] ∷ [])
    (written 4 ∷ now_in crossed ∷ plain (broken_at 0 0x45) ∷ plain (broken_at 0 0x45) ∷ plain (broken_at 0 0x45) ∷ plain (broken_at 0 0x45) ∷ []) []
    ∷ run (to_offered ∷ syn k_b ∷ ack (replicate 39 1 ++ 0x45 ∷ []) ∷ result [] ∷ []) (written 4 ∷ now_in crossed ∷ plain (broken_at 39 0x45) ∷ plain (broken_at 39 0x45) ∷ []) []
    ∷ run (to_answered ∷ syn (0x45 ∷ 2 ∷ 0x45 ∷ 2 ∷ 2 ∷ 1 ∷ []) ∷ result [] ∷ []) (written 4 ∷ plain (broken_at 4 2) ∷ plain (broken_at 4 2) ∷ []) []
    ∷ run (to_answered ∷ ack shortened ∷ result [] ∷ close ∷ result [] ∷ []) (written 4 ∷ plain (broken_at 6 8) ∷ plain (broken_at 6 8) ∷ done ∷ refused 4 ∷ []) []
    -- an end mark hides what follows
    ∷ run (to_answered ∷ ack (0x45 ∷ 3 ∷ 0x23 ∷ 0 ∷ 2 ∷ []) ∷ []) (written 4 ∷ now_in opened ∷ []) []
    -- resend writes the same bytes again, until the door is open
    ∷ run (resend (room 4) ∷ store_r ∷ offer 0 false false (0x21 ∷ 0x23 ∷ []) true (9 ∷ []) (room 14) ∷ resend (room 13) ∷ resend (room 15) ∷ [])
    (refused 4 ∷ done ∷ written 14 ∷ refused 5 ∷ written 14 ∷ [])
    (0x45 ∷ 14 ∷ 0x21 ∷ 0xa3 ∷ low_half ++ 9 ∷ 0xee ∷ [])
    ∷ []
