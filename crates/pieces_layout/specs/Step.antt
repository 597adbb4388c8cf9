-- What a reader makes of a byte, and of a piece: an item in the call that takes its last byte, or a refusal with the position of the byte that settles it.
use Rattle.std.specs.Prelude.{ℕ, zero, suc, ◌+◌, ◌-◌, ◌%◌, List, [], ◌∷◌, ◌++◌, Bool, true, false, cond, ◌&&◌, ◌||◌, ltb, eqb, length, get_or, take}
use Rattle.wire.specs.Number.{number_at}
use Rattle.init_layout.specs.Layout.{Init}
use Rattle.init_layout.specs.Reading.{length_at, count_at, ciphers_from, nonce_from, Standing, unreadable, incomplete, whole, standing_of, took, refused_with, Reading, taken_from}
use Rattle.frame_layout.specs.Layout.{least_length, next_offset, no_frame}
use Rattle.frame_layout.specs.Outcome.{Outcome}
use Rattle.frame_layout.specs.Calls.{read_header, length_in, outcome}
use Rattle.pieces_layout.specs.Reader.{Reader, own_from, State, heading, in_body, in_init, stopped, position_of, state_of, test_of, moved, become, stored, no_room}

-- a finished item, as the one-shot readers read it; bodies are ranges of the stream, from the first byte to the one behind the last
pub data Item : Type 0 where
  init : Init → (keys : ℕ) → Reading → Item
  header : Outcome → Item
  body : (begins ends : ℕ) → Item

-- what a call tells
pub data Told : Type 0 where
  waiting : Told
  item : Item → Told
  refused : (number position : ℕ) → Told
  -- 5
  short : Told

-- that, how many bytes of the piece were used, and the reader afterwards
pub record Taken : Type 0 where
  pub reader : Reader
  pub used : ℕ
  pub told : Told

abbrev pub taken_as : Reader → (used : ℕ) → Told → Taken
taken_as r n t = record { reader = r; used = n; told = t }

-- a refusal is noted in the reader, with the position of the byte that settles it, and no byte counts as used
unfoldable pub stop : Reader → (number : ℕ) → Taken
stop r n = taken_as (become r (position_of r) n 0 6) 0 (refused n (position_of r))

-- a byte of a header. The least ciphertext length that a header beginning with p may have;
unfoldable pub least_in : List ℕ → ℕ
least_in p = cond (ltb (length p) 3 && ltb (length_in p) least_length) least_length (length_in p)

-- with p no header at this offset avoids 11
unfoldable pub hopeless : (offset : ℕ) → List ℕ → Bool
hopeless o p = no_frame o (least_in p)

-- p is the header up to this byte
unfoldable pub headed : Reader → List ℕ → Taken
headed r p =
    let at = position_of r in
    let o = at - (length p - 1) in
    cond (hopeless o p) (stop r 11)
    (cond (ltb (length p) 3) (taken_as (become r (at + 1) (get_or p 0 0) (get_or p 1 0) (length p)) 1 waiting)
    (taken_as (become r (at + 1) (at + 1) (next_offset o (length_in p)) 3) 1 (item (header (outcome (read_header p o))))))

-- a byte of a body
unfoldable pub bodied : Reader → (begins ends : ℕ) → Taken
bodied r begins ends =
    cond (ltb (position_of r + 1) ends) (taken_as (moved r (position_of r + 1)) 1 waiting)
    (taken_as (become r ends 0 0 0) 1 (item (body begins ends)))

-- a byte of an Init message, which stands at place n of the gathered bytes g. It is one before the nonce;
unfoldable pub before_nonce : Init → List ℕ → (n : ℕ) → Bool
before_nonce i g n = ltb n (ciphers_from i) || ltb n (nonce_from i (count_at i g))

abbrev pub is_unreadable : Standing → Bool
is_unreadable unreadable = true
is_unreadable incomplete = false
is_unreadable (whole n) = false

-- with it no continuation is readable: before the ciphers the one-shot reader says so, among them only a cipher 0000 makes it so, with its second byte;
unfoldable pub settles : Init → (keys : ℕ) → List ℕ → (n : ℕ) → Bool
settles i keys g n =
    cond (ltb n (ciphers_from i)) (is_unreadable (standing_of i keys (take (suc n) g)))
    (eqb ((n - ciphers_from i) % 2) 1 && eqb (number_at 2 g (n - 1)) 0x0000)

-- the message ends where its length says, and where no message is longer
unfoldable pub message_end : List ℕ → ℕ
message_end g = cond (ltb own_from (length_at g)) own_from (length_at g)

-- the message is whole: what the one-shot reader reads, or its 10
unfoldable pub finished : Init → (keys : ℕ) → Reader → Reading → Taken
finished i keys r x = elim x.says [ took c count n ↦ taken_as (become r (message_end r.gathered) 0 0 0) 1 (item (init i keys x)) | refused_with n ↦ stop r n ]

unfoldable pub gathering : Init → (keys : ℕ) → Reader → (n : ℕ) → Taken
gathering i keys r n =
    cond (before_nonce i r.gathered n)
    (cond (settles i keys r.gathered n) (stop r 8) (taken_as (moved r (n + 1)) 1 waiting))
    (cond (ltb (n + 1) (message_end r.gathered)) (taken_as (moved r (n + 1)) 1 waiting)
    (finished i keys r (taken_from i keys (test_of i r) r.gathered (message_end r.gathered))))

-- what a byte comes to; a refusal is given again, and nothing changes
unfoldable pub by_state : State → Reader → (byte : ℕ) → Taken
by_state (heading s) r b = headed r (s ++ (b ∷ []))
by_state (in_body begins ends) r b = bodied r begins ends
by_state (in_init i keys) r b = gathering i keys (stored r (position_of r) b) (position_of r)
by_state (stopped n) r b = taken_as r 0 (refused n (position_of r))

unfoldable pub after_byte : Reader → (byte : ℕ) → Taken
after_byte r b = by_state (state_of r) r b

-- what a reader tells that is given no byte: it waits, or has refused
abbrev pub still_in : State → (position : ℕ) → Told
still_in (heading s) p = waiting
still_in (in_body begins ends) p = waiting
still_in (in_init i keys) p = waiting
still_in (stopped n) p = refused n p

-- one byte more was used, but none beside a refusal
abbrev pub more : (used : ℕ) → Told → ℕ
more n waiting = suc n
more n (item x) = suc n
more n (refused k p) = 0
more n short = 0

-- on while the reader waits
unfoldable pub go_on : Taken → (Reader → Taken) → Taken
go_on t next = elim t.told [
  | waiting ↦ let x = next t.reader in taken_as x.reader (more x.used x.told) x.told
  | item x ↦ t
  | refused n p ↦ t
  | short ↦ t
]

-- a piece: bytes up to the last of the first item that they finish
unfoldable pub fed_on : Reader → List ℕ → Taken
fed_on r [] = taken_as r 0 (still_in (state_of r) (position_of r))
fed_on r (b ∷ l) = go_on (after_byte r b) (λ x. fed_on x l)

unfoldable pub fed : Reader → (piece : List ℕ) → Taken
fed r p = cond (no_room r) (taken_as r 0 short) (fed_on r p)
