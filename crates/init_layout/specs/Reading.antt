-- What a reader decides from the bytes at hand, by fields as they come, and what it says.
use Rattle.std.specs.Prelude.{ℕ, zero, suc, ◌+◌, ◌*◌, ◌-◌, List, [], ◌∷◌, ◌++◌, Bool, false, cond, not, ◌&&◌, ◌||◌, ltb, eqb, length, get_or, take, replicate}
use Rattle.std.proofs.Math.Option.{Option, none, some}
use Rattle.wire.specs.Bytes.{bytes_from, same_bytes}
use Rattle.wire.specs.Number.{number_at}
use Rattle.eno.specs.Tep.{key_length}
use Rattle.eno.specs.Option.{is_listed}
use Rattle.init_layout.specs.Layout.{Init, init1, init2, magic_of, Message, length_of, most_length}
use Rattle.init_layout.specs.declared.Enabled.{Enabled}

-- the same bytes as far as both go
unfoldable pub agrees : List ℕ → List ℕ → Bool
agrees magic p = same_bytes (take (length magic) p) (take (length p) magic)

-- the length of the whole message; a byte that is not at hand reads as 0
unfoldable pub length_at : List ℕ → ℕ
length_at p = number_at 4 p 4

-- how many ciphers the message lists; a count that is not at hand reads as 1, the least that may follow
unfoldable pub count_at : Init → List ℕ → ℕ
count_at init1 p = get_or p 8 1
count_at init2 p = 1

-- where the ciphers begin, then nonce and key, and where the fields end
unfoldable pub ciphers_from : Init → ℕ
ciphers_from init1 = 9
ciphers_from init2 = 8

unfoldable pub nonce_from : Init → ℕ → ℕ
nonce_from i count = ciphers_from i + 2 * count

unfoldable pub fields_end : Init → ℕ → ℕ → ℕ
fields_end i keys count = nonce_from i count + 32 + keys

-- how the bytes at hand stand
pub data Standing : Type 0 where
  unreadable : Standing
  incomplete : Standing
  whole : ℕ → Standing

-- another magic, a length above the most, or one too short for the fields that are seen: no continuation is readable
unfoldable pub standing : List ℕ → ℕ → List ℕ → Standing
standing magic fields p =
    cond (not (agrees magic p)) unreadable
    (cond (ltb most_length (length_at p)) unreadable
    (cond (ltb (length p) 8) incomplete
    (cond (ltb (length_at p) fields) unreadable
    (cond (ltb (length p) (length_at p)) incomplete
    (whole (length_at p))))))

-- one of n ciphers from place i on is 0000, as far as both its bytes are at hand
unfoldable pub void_from : ℕ → List ℕ → ℕ → Bool
void_from zero p i = false
void_from (suc n) p i = ltb (i + 1) (length p) && (eqb (number_at 2 p i) 0x0000 || void_from n p (i + 2))

-- no cipher is listed, or one that is 0000
unfoldable pub void_at : Init → List ℕ → Bool
void_at i p = eqb (count_at i p) 0 || void_from (count_at i p) p (ciphers_from i)

-- nor is a continuation readable where the list is empty or void
unfoldable pub standing_of : Init → ℕ → List ℕ → Standing
standing_of i keys p = cond (void_at i p) unreadable (standing (magic_of i) (fields_end i keys (count_at i p)) p)

-- n ciphers from place i on
unfoldable pub ciphers_at : ℕ → List ℕ → ℕ → List ℕ
ciphers_at zero p i = []
ciphers_at (suc n) p i = number_at 2 p i ∷ ciphers_at n p (i + 2)

-- the first of a list that passes a test
unfoldable pub first_that : (ℕ → Bool) → List ℕ → Option ℕ
first_that test [] = none
first_that test (c ∷ l) = cond (test c) (some c) (first_that test l)

-- 0001 and 0002 (AES-GCM), 0010 (ChaCha20-Poly1305)
unfoldable pub is_enabled : Enabled → ℕ → Bool
is_enabled e c = eqb c 0x0001 && e.aes128 || eqb c 0x0002 && e.aes256 || eqb c 0x0010 && e.chacha20

-- what a reader says: cipher, count of ciphers and length of the message, or the number of its refusal
pub data Says : Type 0 where
  took : ℕ → ℕ → ℕ → Says
  refused_with : ℕ → Says

-- that, and beside it nonce and key, the key with zeros up to 56 bytes
pub record Reading : Type 0 where
  pub says : Says
  pub nonce : List ℕ
  pub key : List ℕ

unfoldable pub zeros : ℕ → List ℕ
zeros n = replicate n 0

abbrev pub reading_as : Says → List ℕ → List ℕ → Reading
reading_as says nonce key = record { says = says; nonce = nonce; key = key }

-- zeros stand beside a refusal
unfoldable pub refused_reading : ℕ → Reading
refused_reading n = reading_as (refused_with n) (zeros 32) (zeros 56)

unfoldable pub padded : List ℕ → List ℕ
padded key = key ++ zeros (56 - length key)

-- a message that was read, and the cipher that is taken, if any: 10 where none is
unfoldable pub with_cipher : Option ℕ → ℕ → ℕ → List ℕ → List ℕ → Reading
with_cipher none count n nonce key = refused_reading 10
with_cipher (some c) count n nonce key = reading_as (took c count n) nonce (padded key)

-- the answer to a message
unfoldable pub answer_to : Init → (ℕ → Bool) → Message → Reading
answer_to i test m = with_cipher (first_that test m.ciphers) (length m.ciphers) (length_of i m) m.nonce m.key

-- the message at hand: its values stand where the layout has them
unfoldable pub taken_from : Init → ℕ → (ℕ → Bool) → List ℕ → ℕ → Reading
taken_from i keys test p n =
    let count = count_at i p in
    let at = nonce_from i count in
    with_cipher (first_that test (ciphers_at count p (ciphers_from i))) count n (bytes_from 32 p at) (bytes_from keys p (at + 32))

unfoldable pub read_as : Init → ℕ → (ℕ → Bool) → List ℕ → Standing → Reading
read_as i keys test p unreadable = refused_reading 8
read_as i keys test p incomplete = refused_reading 9
read_as i keys test p (whole n) = taken_from i keys test p n

unfoldable pub reading : Init → ℕ → (ℕ → Bool) → List ℕ → Reading
reading i keys test p = read_as i keys test p (standing_of i keys p)

-- Init for another TEP than 23 and 24 is refused with 3 before anything is read
unfoldable pub read_for : Init → ℕ → (ℕ → Bool) → List ℕ → Reading
read_for i keys test p = cond (eqb keys 0) (refused_reading 3) (reading i keys test p)

-- B takes the first cipher of Init1 that it has enabled
unfoldable pub read_init1 : ℕ → Enabled → List ℕ → Reading
read_init1 t enabled p = read_for init1 (key_length t) (is_enabled enabled) p

-- A takes a cipher that was in its own Init1
unfoldable pub in_init1 : List ℕ → ℕ → Bool
in_init1 own c = is_listed c own

unfoldable pub read_init2 : ℕ → List ℕ → List ℕ → Reading
read_init2 t own p = cond (ltb 255 (length own)) (refused_reading 3) (read_for init2 (key_length t) (in_init1 own) p)
