-- The rows of document 01's table that calls on frames meet, by number and in the table's words; the calls are defined without them.
use Rattle.std.specs.Prelude.{ℕ, ◌+◌, ◌/◌, ◌%◌, List, [], ◌∷◌, Bool, false, cond, not, ◌&&◌, ◌||◌, ltb, eqb, length, get_or}
use Rattle.wire.specs.Number.{number_at}
use Rattle.refusals.specs.Rows.{marked}
use Rattle.frame_layout.specs.Calls.{Ask, next, write_header, read_header, nonce, write_plaintext, read_plaintext}

-- 3: fixed nonce of another length
unfoldable pub number3 : Ask → Bool
number3 (next offset clen) = false
number3 (write_header rekey clen offset s) = false
number3 (read_header s offset) = false
number3 (nonce fixed offset) = not (eqb (length fixed) 12)
number3 (write_plaintext fin urg urgent payload s) = false
number3 (read_plaintext s) = false

-- the lent buffer of a call; none where it lends none
unfoldable pub lent_of : Ask → List ℕ
lent_of (next offset clen) = []
lent_of (write_header rekey clen offset s) = s
lent_of (read_header s offset) = []
lent_of (nonce fixed offset) = []
lent_of (write_plaintext fin urg urgent payload s) = s
lent_of (read_plaintext s) = []

-- how many bytes a plaintext has
unfoldable pub size_of : Bool → List ℕ → ℕ
size_of urg payload = cond urg 3 1 + length payload

-- how many bytes a call is to write
unfoldable pub to_write : Ask → ℕ
to_write (next offset clen) = 0
to_write (write_header rekey clen offset s) = 3
to_write (read_header s offset) = 0
to_write (nonce fixed offset) = 0
to_write (write_plaintext fin urg urgent payload s) = size_of urg payload
to_write (read_plaintext s) = 0

-- 5: lent buffer shorter than what is to be written
unfoldable pub number5 : Ask → Bool
number5 k = ltb (length (lent_of k)) (to_write k)

-- 9: frame header under 3 bytes
unfoldable pub number9 : Ask → Bool
number9 (next offset clen) = false
number9 (write_header rekey clen offset s) = false
number9 (read_header s offset) = ltb (length s) 3
number9 (nonce fixed offset) = false
number9 (write_plaintext fin urg urgent payload s) = false
number9 (read_plaintext s) = false

-- ciphertext length below 17 or above 65,535, or offset plus frame passes 2^64 - 1
unfoldable pub no_length : (offset clen : ℕ) → Bool
no_length offset clen = ltb clen 17 || ltb 65535 clen || ltb 0xffffffffffffffff (offset + 3 + clen)

-- 11: the same, or plaintext to be sent above 65,519; a header that is read has its length in its second and third byte
unfoldable pub number11 : Ask → Bool
number11 (next offset clen) = no_length offset clen
number11 (write_header rekey clen offset s) = no_length offset clen
number11 (read_header s offset) = no_length offset (number_at 2 s 1)
number11 (nonce fixed offset) = false
number11 (write_plaintext fin urg urgent payload s) = ltb 65519 (size_of urg payload)
number11 (read_plaintext s) = false

-- 12: plaintext of no bytes, or URGp with fewer than three
unfoldable pub number12 : Ask → Bool
number12 (next offset clen) = false
number12 (write_header rekey clen offset s) = false
number12 (read_header s offset) = false
number12 (nonce fixed offset) = false
number12 (write_plaintext fin urg urgent payload s) = false
number12 (read_plaintext s) = eqb (length s) 0 || eqb (get_or s 0 0 / 2 % 2) 1 && ltb (length s) 3

-- the rows, by number
unfoldable pub rows : Ask → List (Bool × ℕ)
rows k = (number3 k, 3) ∷ (number5 k, 5) ∷ (number9 k, 9) ∷ (number11 k, 11) ∷ (number12 k, 12) ∷ []

-- a row's number applies
unfoldable pub applies : Ask → ℕ → Bool
applies k n = marked n (rows k)
