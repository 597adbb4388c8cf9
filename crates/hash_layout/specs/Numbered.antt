-- The rows of documents 01 and 02 that calls on a hash meet, by number and in their words; the calls are defined without them.
use Rattle.std.specs.Prelude.{ℕ, zero, suc, ◌+◌, ◌*◌, ◌/◌, ◌-◌, ◌^◌, List, [], ◌∷◌, ◌++◌, Bool, false, cond, not, ◌||◌, ltb, eqb, length}
use Rattle.refusals.specs.Rows.{marked}
use Rattle.hash_layout.specs.Calls.{Ask, hash, mac, extract, expand}

-- 3: expansion key not of 32 bytes
unfoldable pub number3 : Ask → Bool
number3 (hash m) = false
number3 (mac key m) = false
number3 (extract salt ikm) = false
number3 (expand key info n s) = not (eqb (length key) 32)

-- the lent buffer of a call; none where it lends none
unfoldable pub lent_of : Ask → List ℕ
lent_of (hash m) = []
lent_of (mac key m) = []
lent_of (extract salt ikm) = []
lent_of (expand key info n s) = s

-- how many bytes a call is to write
unfoldable pub to_write : Ask → ℕ
to_write (hash m) = 0
to_write (mac key m) = 0
to_write (extract salt ikm) = 0
to_write (expand key info n s) = n

-- 5: lent buffer shorter than what is to be written
unfoldable pub number5 : Ask → Bool
number5 k = ltb (length (lent_of k)) (to_write k)

-- how many bytes each hash of a MAC is over, by the lengths of key and text: the key where it is above a block, the block and the text, the block and a hash
unfoldable pub hashed_mac : (key text : ℕ) → List ℕ
hashed_mac key text = cond (ltb 64 key) (key ∷ []) [] ++ ((64 + text) ∷ (64 + 32) ∷ [])

-- how many bytes T(i) has
unfoldable pub length_t : ℕ → ℕ
length_t zero = 0
length_t (suc i) = 32

-- T(i), info and the counter: the MACs of i blocks, the last one first, with a key of 32 bytes
unfoldable pub hashed_blocks : (info : ℕ) → ℕ → List ℕ
hashed_blocks info zero = []
hashed_blocks info (suc i) = hashed_mac 32 (length_t i + info + 1) ++ hashed_blocks info i

-- how many bytes each hash of a call is over, HMAC's blocks counted
unfoldable pub hashed : Ask → List ℕ
hashed (hash m) = length m ∷ []
hashed (mac key m) = hashed_mac (length key) (length m)
hashed (extract salt ikm) = hashed_mac (length salt) (length ikm)
hashed (expand key info n s) = hashed_blocks (length info) ((n + 31) / 32)

-- one of them is over more than 2^61 - 1 bytes
unfoldable pub is_longer : List ℕ → Bool
is_longer [] = false
is_longer (n ∷ l) = ltb (2 ^ 61 - 1) n || is_longer l

-- an expansion above 255 hash lengths
unfoldable pub is_over255 : Ask → Bool
is_over255 (hash m) = false
is_over255 (mac key m) = false
is_over255 (extract salt ikm) = false
is_over255 (expand key info n s) = ltb (255 * 32) n

-- 17: an expansion above 255 hash lengths, or a hash, HMAC's blocks counted, over more than 2^61 - 1 bytes
unfoldable pub number17 : Ask → Bool
number17 k = is_over255 k || is_longer (hashed k)

-- the rows, by number
unfoldable pub rows : Ask → List (Bool × ℕ)
rows k = (number3 k, 3) ∷ (number5 k, 5) ∷ (number17 k, 17) ∷ []

-- a row's number applies
unfoldable pub applies : Ask → ℕ → Bool
applies k n = marked n (rows k)
