-- Runs of the unit, each from the empty one: one table, one claim about all rows. No unit whose answers are constant or invented passes it.
use Rattle.std.specs.Prelude.{ℕ, ◌-◌, ◌≡◌, List, [], ◌∷◌, ◌++◌, Bool, true, false, take, replicate}
use Rattle.eno.specs.Cause.{numbered}
use Rattle.eno.specs.Judge.{fresh, resumed}
use Rattle.door.specs.Door.{opened}
use Rattle.door.specs.Outcome.{Reply, refused, written, plain, now_in, encrypted, done, holds}
use Rattle.door.specs.Calls.{Ask, offer, answer, receive, resend, result, close, store, forget, count}
use Rattle.unit.specs.Numbers.{doors_n}
use Rattle.unit.specs.Unit.{empty_unit}
use Rattle.unit.specs.Run.{Call, on, erase, step}
use Rattle.unit.specs.declared.LinkUnit.{LinkUnit}

-- what each call of a list is answered, from a unit on
unfoldable pub replies_of : LinkUnit → List Call → List Reply
replies_of u [] = []
replies_of u (c ∷ cs) = let s = step u c in s.told.reply ∷ replies_of s.unit cs

-- the lent buffer that the last call leaves
unfoldable pub last_buffer : LinkUnit → List Call → List ℕ
last_buffer u [] = []
last_buffer u (c ∷ []) = (step u c).told.buffer
last_buffer u (c ∷ e ∷ cs) = last_buffer (step u c).unit (e ∷ cs)

pub record Run : Type 0 where
  pub calls : List Call
  pub replies : List Reply
  pub bytes : List ℕ

-- what the definitions give for the calls of a run
unfoldable pub told : Run → Run
told r = record { calls = r.calls; replies = replies_of empty_unit r.calls; bytes = last_buffer empty_unit r.calls }

abbrev run : List Call → List Reply → List ℕ → Run
run calls replies bytes = record { calls = calls; replies = replies; bytes = bytes }

abbrev pub low_half : List ℕ
low_half = 0 ∷ 1 ∷ 2 ∷ 3 ∷ 4 ∷ 5 ∷ 6 ∷ 7 ∷ 8 ∷ []

abbrev pub high_half : List ℕ
high_half = 9 ∷ 10 ∷ 11 ∷ 12 ∷ 13 ∷ 14 ∷ 15 ∷ 16 ∷ 17 ∷ []

abbrev pub secret_r : List ℕ
secret_r = replicate 32 0x5a

-- R is TEP 23, role A, identifier 00 01 .. 11
abbrev store_r : Ask
store_r = store 0x23 0 (low_half ++ high_half) secret_r

abbrev forget_r : Ask
forget_r = forget 0x23 (low_half ++ high_half)

-- other records of TEP 21: the identifier is n, 18 times
abbrev store_nth : ℕ → Ask
store_nth n = store 0x21 1 (replicate 18 n) secret_r

abbrev room : ℕ → List ℕ
room n = replicate n 0xee

abbrev no_secret : List ℕ
no_secret = replicate 32 0

abbrev syn_ack : List ℕ → Ask
syn_ack area = receive true true area

abbrev ack : List ℕ → Ask
ack area = receive false true area

-- the options of K1 and of K2
abbrev k1_a : List ℕ
k1_a = 0x45 ∷ 4 ∷ 0x21 ∷ 0x23 ∷ []

abbrev k1_b : List ℕ
k1_b = 0x45 ∷ 4 ∷ 1 ∷ 0x23 ∷ []

abbrev k2_a : List ℕ
k2_a = 0x45 ∷ 5 ∷ 0x21 ∷ 0x23 ∷ 0x24 ∷ []

abbrev k2_b : List ℕ
k2_b = 0x45 ∷ 5 ∷ 1 ∷ 0x23 ∷ 0x21 ∷ []

-- the last door, and one that is not ours
abbrev last_door : ℕ
last_door = doors_n - 1

abbrev no_door : ℕ
no_door = doors_n

-- TEPs 21 and 23 offered, resuming or not
abbrev offer_k1 : Bool → ℕ → Ask
offer_k1 resume n = offer 0 false false (0x21 ∷ 0x23 ∷ []) resume [] (room n)

abbrev answer_k1 : Ask
answer_k1 = answer k1_a false false (0x23 ∷ []) [] (room 4)

-- R offered, and answered with the half that it expects
abbrev resumed_r : List ℕ
resumed_r = 0x45 ∷ 13 ∷ 0x21 ∷ 0xa3 ∷ low_half

abbrev resuming_b : List ℕ
resuming_b = 0x45 ∷ 13 ∷ 1 ∷ 0xa3 ∷ high_half

-- R stored once at door 3 and offered twice: it opens one connection, the second is fresh
unfoldable pub stored_once : List Call
stored_once =
    on 3 store_r
    ∷ on 3 count
    ∷ on 3 (offer_k1 true 13)
    ∷ on 3 count
    ∷ on 3 (syn_ack resuming_b)
    ∷ on 3 (result (room 26))
    ∷ on 3 count
    ∷ on 3 close
    ∷ on 3 (offer_k1 true 4)
    ∷ on 3 (syn_ack k1_b)
    ∷ on 3 (result (room 8))
    ∷ []

-- R stored twice at door 3, offered after each store, and each resumed connection asked twice for its result
unfoldable pub resumed_twice : List Call
resumed_twice =
    on 3 store_r
    ∷ on 3 (offer_k1 true 13)
    ∷ on 3 (syn_ack resuming_b)
    ∷ on 3 (result (room 26))
    ∷ on 3 (result (room 26))
    ∷ on 3 close
    ∷ on 3 store_r
    ∷ on 3 (offer_k1 true 13)
    ∷ on 3 (syn_ack resuming_b)
    ∷ on 3 (result (room 26))
    ∷ on 3 (result (room 26))
    ∷ []

-- a row that door 5 frees, while door 7 holds the next one, is the one that door 0 takes
unfoldable pub until_freed : List Call
until_freed = on 5 store_r ∷ on 7 store_r ∷ on 5 forget_r ∷ []

unfoldable pub until_taken : List Call
until_taken = until_freed ++ on 0 store_r ∷ []

unfoldable pub runs : List Run
runs =
    -- K1 through offer, receive, result
    run (on 0 (offer_k1 false 4) ∷ on 0 (result (room 8)) ∷ on 0 (syn_ack k1_b) ∷ on 0 (result (room 8)) ∷ [])
    (written 4 ∷ refused 4 ∷ now_in opened ∷ encrypted 0 0x23 fresh 8 no_secret ∷ []) (k1_a ++ k1_b)
    -- the bytes that the offer writes
    ∷ run (on 0 (offer_k1 false 6) ∷ []) (written 4 ∷ []) (k1_a ++ 0xee ∷ 0xee ∷ [])
    -- and through answer, receive, result
    ∷ run (on 1 answer_k1 ∷ on 1 (result (room 8)) ∷ on 1 (ack (0x45 ∷ 2 ∷ [])) ∷ on 1 (result (room 8)) ∷ [])
    (written 4 ∷ refused 4 ∷ now_in opened ∷ encrypted 1 0x23 fresh 8 no_secret ∷ []) (k1_a ++ k1_b)
    ∷ run (on 1 answer_k1 ∷ []) (written 4 ∷ []) k1_b
    -- both ends of K1 in one unit, a call of each in turn
    ∷ run (on 0 (offer_k1 false 4) ∷ on 1 answer_k1 ∷ on 0 (syn_ack k1_b) ∷ on 1 (ack (0x45 ∷ 2 ∷ [])) ∷ on 0 (result (room 8)) ∷ on 1 (result (room 8)) ∷ [])
    (written 4 ∷ written 4 ∷ now_in opened ∷ now_in opened ∷ encrypted 0 0x23 fresh 8 no_secret ∷ encrypted 1 0x23 fresh 8 no_secret ∷ []) (k1_a ++ k1_b)
    -- K2 from both ends: the last valid TEP of B's option
    ∷ run (on 0 (offer 0 false false (0x21 ∷ 0x23 ∷ 0x24 ∷ []) false [] (room 5)) ∷ on 0 (syn_ack k2_b) ∷ on 0 (result (room 12)) ∷ [])
    (written 5 ∷ now_in opened ∷ encrypted 0 0x21 fresh 10 no_secret ∷ []) (k2_a ++ k2_b ++ 0xee ∷ 0xee ∷ [])
    ∷ run (on 0 (answer k2_a false false (0x23 ∷ 0x21 ∷ []) [] (room 4)) ∷ on 0 (ack (0x45 ∷ 2 ∷ [])) ∷ on 0 (result (room 9)) ∷ [])
    (written 4 ∷ now_in opened ∷ encrypted 1 0x21 fresh 9 no_secret ∷ []) (k2_a ++ 0x45 ∷ 4 ∷ 1 ∷ 0x21 ∷ [])
    -- no option in the SYN+ACK: plain TCP, reason 2
    ∷ run (on 0 (offer_k1 false 4) ∷ on 0 (syn_ack []) ∷ on 0 (result []) ∷ []) (written 4 ∷ plain (numbered 2) ∷ plain (numbered 2) ∷ []) []
    -- R stored, offered, resumed with its secret, and counted no more; its second offer is fresh
    ∷ run stored_once
    (done ∷ holds 1 ∷ written 13 ∷ holds 0 ∷ now_in opened ∷ encrypted 0 0xa3 resumed 26 secret_r ∷ holds 0 ∷ done ∷ written 4 ∷ now_in opened ∷ encrypted 0 0x23 fresh 8 no_secret ∷ [])
    (k1_a ++ k1_b)
    -- the transcript of the resumed one
    ∷ run (take 6 stored_once) (done ∷ holds 1 ∷ written 13 ∷ holds 0 ∷ now_in opened ∷ encrypted 0 0xa3 resumed 26 secret_r ∷ []) (resumed_r ++ resuming_b)
    -- while R is in hand the door refuses to store it; another door offers it not, and stores its own
    ∷ run (on 3 store_r ∷ on 3 (offer_k1 true 13) ∷ on 3 store_r ∷ on 4 (offer_k1 true 4) ∷ on 4 store_r ∷ on 4 count ∷ []) (done ∷ written 13 ∷ refused 7 ∷ written 4 ∷ done ∷ holds 1 ∷ []) []
    -- store, count, forget, count
    ∷ run (on 9 count ∷ on 9 store_r ∷ on 9 count ∷ on 9 store_r ∷ on 9 forget_r ∷ on 9 count ∷ on 9 forget_r ∷ []) (holds 0 ∷ done ∷ holds 1 ∷ refused 7 ∷ done ∷ holds 0 ∷ refused 16 ∷ []) []
    -- the last door, and one that is not ours
    ∷ run (on last_door store_r ∷ on last_door count ∷ on last_door (offer_k1 false 4) ∷ on last_door close ∷ []) (done ∷ holds 1 ∷ written 4 ∷ done ∷ []) []
    ∷ run
    (on no_door (offer_k1 false 4)
    ∷ on no_door answer_k1
    ∷ on no_door (syn_ack k1_b)
    ∷ on no_door (resend (room 4))
    ∷ on no_door (result (room 8))
    ∷ on no_door close
    ∷ on no_door store_r
    ∷ on no_door forget_r
    ∷ on no_door count
    ∷ [])
    (replicate 9 (refused 1)) []
    ∷ run (on no_door (offer_k1 false 4) ∷ []) (refused 1 ∷ []) (room 4)
    -- the fifth record
    ∷ run (on 2 (store_nth 1) ∷ on 2 (store_nth 2) ∷ on 2 (store_nth 3) ∷ on 2 (store_nth 4) ∷ on 2 (store_nth 5) ∷ on 2 count ∷ on 1 (store_nth 5) ∷ on 1 count ∷ [])
    (done ∷ done ∷ done ∷ done ∷ refused 6 ∷ holds 4 ∷ done ∷ holds 1 ∷ []) []
    -- two doors with equal records, of which one forgets
    ∷ run (on 5 store_r ∷ on 6 store_r ∷ on 5 forget_r ∷ on 5 count ∷ on 6 count ∷ on 6 (offer_k1 true 13) ∷ []) (done ∷ done ∷ done ∷ holds 0 ∷ holds 1 ∷ written 13 ∷ []) resumed_r
    -- a freed row is used again
    ∷ run (until_taken ++ on 0 count ∷ on 5 count ∷ on 7 count ∷ []) (done ∷ done ∷ done ∷ done ∷ holds 1 ∷ holds 0 ∷ holds 1 ∷ []) []
    -- erase empties every door
    ∷ run (on 5 store_r ∷ on 6 store_r ∷ on 5 (offer_k1 true 13) ∷ erase ∷ on 5 count ∷ on 6 count ∷ on 5 (offer_k1 true 4) ∷ []) (done ∷ done ∷ written 13 ∷ done ∷ holds 0 ∷ holds 0 ∷ written 4 ∷ []) k1_a
    ∷ run (on 5 store_r ∷ erase ∷ []) (done ∷ done ∷ []) []
    ∷ []
