-- A reader of one direction's stream: what the host lends to each call, and how that reads. Any numbers and bytes are a reader.
use Rattle.std.specs.Prelude.{ℕ, ◌+◌, ◌/◌, ◌%◌, List, [], ◌∷◌, Bool, cond, false, true, ◌&&◌, ◌||◌, ltb, eqb, length, get_or, set}
use Rattle.eno.specs.Tep.{key_length}
use Rattle.init_layout.specs.Layout.{Init, init1, init2}
use Rattle.init_layout.specs.Reading.{is_enabled, in_init1, ciphers_at}
use Rattle.init_layout.specs.declared.Enabled.{Enabled}

-- four numbers (position, first, second, stage), and the bytes in which an Init message is gathered
pub record Reader : Type 0 where
  pub numbers : List ℕ
  pub gathered : List ℕ

abbrev pub reader_of : (numbers gathered : List ℕ) → Reader
reader_of n g = record { numbers = n; gathered = g }

unfoldable pub numbers_n : ℕ
numbers_n = 4

unfoldable pub gathered_n : ℕ
gathered_n = 4608

-- behind the longest message stand the ciphers of A's own Init1, two bytes each
unfoldable pub own_from : ℕ
own_from = 4096

-- how many bytes of the stream were taken; once refused, the position of the byte that settled it
unfoldable pub position_of : Reader → ℕ
position_of r = get_or r.numbers 0 0

unfoldable pub first_of : Reader → ℕ
first_of r = get_or r.numbers 1 0

unfoldable pub second_of : Reader → ℕ
second_of r = get_or r.numbers 2 0

-- what a reader has come to
pub data State : Type 0 where
  -- a frame's header, of which these bytes are at hand: none, one or two
  heading : List ℕ → State
  -- a frame's body, this range of the stream
  in_body : (begins ends : ℕ) → State
  -- an Init message, where public keys have so many bytes
  in_init : Init → (keys : ℕ) → State
  -- refused with this number, by the byte at the position
  stopped : ℕ → State

-- 1, 2: one byte, two bytes of a header; 3: a body; 4: Init1; 5: Init2; 6: refused; all others: a header of which no byte is at hand
unfoldable pub stage_of : (stage first second : ℕ) → State
stage_of n a b =
    cond (eqb n 1) (heading (a % 256 ∷ []))
    (cond (eqb n 2) (heading (a % 256 ∷ b % 256 ∷ []))
    (cond (eqb n 3) (in_body a b)
    (cond (eqb n 4) (in_init init1 (key_length a))
    (cond (eqb n 5) (in_init init2 (key_length a))
    (cond (eqb n 6) (stopped (cond (eqb a 8) 8 (cond (eqb a 10) 10 11)))
    (heading []))))))

unfoldable pub state_of : Reader → State
state_of r = stage_of (get_or r.numbers 3 0) (first_of r) (second_of r)

-- the ciphers that B has enabled: bits 0 to 2
unfoldable pub enabled_in : ℕ → Enabled
enabled_in n = record { aes128 = eqb (n % 2) 1; aes256 = eqb (n / 2 % 2) 1; chacha20 = eqb (n / 4 % 2) 1 }

unfoldable pub bits_of : Enabled → ℕ
bits_of e = cond e.aes128 1 0 + cond e.aes256 2 0 + cond e.chacha20 4 0

-- the ciphers that A's own Init1 listed: at most 255
unfoldable pub own_in : Reader → List ℕ
own_in r = ciphers_at (cond (ltb 255 (second_of r)) 255 (second_of r)) r.gathered own_from

-- B takes what it has enabled, A what its own Init1 listed
unfoldable pub test_of : Init → Reader → ℕ → Bool
test_of init1 r c = is_enabled (enabled_in (second_of r)) c
test_of init2 r c = in_init1 (own_in r) c

-- the reader at another position; with all four numbers set; with a byte gathered at place n, if messages reach there
unfoldable pub moved : Reader → (position : ℕ) → Reader
moved r p = reader_of (set r.numbers 0 p) r.gathered

unfoldable pub become : Reader → (position first second stage : ℕ) → Reader
become r p a b n = reader_of (set (set (set (set r.numbers 0 p) 1 a) 2 b) 3 n) r.gathered

unfoldable pub stored : Reader → (n byte : ℕ) → Reader
stored r n b = reader_of r.numbers (cond (ltb n own_from) (set r.gathered n b) r.gathered)

abbrev pub is_init : State → Bool
is_init (heading s) = false
is_init (in_body begins ends) = false
is_init (in_init i keys) = true
is_init (stopped n) = false

-- 5: what is lent is shorter than what the reader keeps in it; bytes are gathered only while an Init message is read
unfoldable pub no_room : Reader → Bool
no_room r = ltb (length r.numbers) numbers_n || is_init (state_of r) && ltb (length r.gathered) gathered_n
