-- Init1 and Init2 by their layout (document 01, "Init messages"; RFC 8548, 4.1).
use Rattle.std.specs.Prelude.{ℕ, ◌+◌, ◌≤◌, ◌<◌, ◌≡◌, List, [], ◌∷◌, ◌++◌, Bool, false, length}
use Rattle.wire.specs.Number.{big_endian}
use Rattle.eno.specs.Option.{is_listed}

-- the two messages
pub data Init : Type 0 where
  init1 : Init
  init2 : Init

-- the magic of each
unfoldable pub magic_of : Init → List ℕ
magic_of init1 = 0x15 ∷ 0x10 ∷ 0x1a ∷ 0x0e ∷ []
magic_of init2 = 0x09 ∷ 0x71 ∷ 0x05 ∷ 0xe0 ∷ []

-- what a message says; `ignored` stands between the key and the length
pub record Message : Type 0 where
  pub ciphers : List ℕ
  pub nonce : List ℕ
  pub key : List ℕ
  pub ignored : List ℕ

abbrev pub message_with : List ℕ → List ℕ → List ℕ → List ℕ → Message
message_with ciphers nonce key ignored = record { ciphers = ciphers; nonce = nonce; key = key; ignored = ignored }

-- Init1 has a 1-byte count of its ciphers; Init2 has one cipher and no count
unfoldable pub count_field : Init → List ℕ → List ℕ
count_field init1 ciphers = length ciphers ∷ []
count_field init2 ciphers = []

-- Init1 lists 1 to 255 ciphers (change request (viii): at least one)
abbrev pub CountFits : Init → ℕ → Type 0
CountFits init1 n = (1 ≤ n) × (n ≤ 255)
CountFits init2 n = n ≡ 1

-- 2-byte ciphers
unfoldable pub cipher_bytes : List ℕ → List ℕ
cipher_bytes [] = []
cipher_bytes (c ∷ l) = big_endian 2 c ++ cipher_bytes l

abbrev pub Ciphers : List ℕ → Type 0
Ciphers [] = Unit {0}
Ciphers (c ∷ l) = (c < 65536) × Ciphers l

-- some cipher of a list is 0000, which names none (change request (viii))
unfoldable pub is_void : List ℕ → Bool
is_void ciphers = is_listed 0x0000 ciphers

-- what stands after the magic and the length
unfoldable pub fields_of : Init → Message → List ℕ
fields_of i m = count_field i m.ciphers ++ (cipher_bytes m.ciphers ++ (m.nonce ++ (m.key ++ m.ignored)))

-- the length of the whole message, four bytes of magic and four of length included
unfoldable pub length_of : Init → Message → ℕ
length_of i m = 8 + length (fields_of i m)

-- magic, length of the whole, count, ciphers, nonce, key, ignored bytes
unfoldable pub encoded : Init → Message → List ℕ
encoded i m = magic_of i ++ (big_endian 4 (length_of i m) ++ fields_of i m)

-- sent messages end with the key
unfoldable pub init1_bytes : List ℕ → List ℕ → List ℕ → List ℕ
init1_bytes ciphers nonce key = encoded init1 (message_with ciphers nonce key [])

unfoldable pub init2_bytes : ℕ → List ℕ → List ℕ → List ℕ
init2_bytes cipher nonce key = encoded init2 (message_with (cipher ∷ []) nonce key [])

-- the greatest length that is read
unfoldable pub most_length : ℕ
most_length = 4096

-- a message that may be read where public keys have `keys` bytes
pub record Fits (i : Init) (keys : ℕ) (m : Message) : Type 0 where
  pub count : CountFits i (length m.ciphers)
  pub each : Ciphers m.ciphers
  pub named : is_void m.ciphers ≡ false
  pub nonce : length m.nonce ≡ 32
  pub key : length m.key ≡ keys
  pub short : length_of i m ≤ most_length

-- bytes that are readable: a message by its layout, and a rest that is not read
pub record Readable (i : Init) (keys : ℕ) (p : List ℕ) : Type 0 where
  pub message : Message
  pub rest : List ℕ
  pub fits : Fits i keys message
  pub layout : encoded i message ++ rest ≡ p

-- some continuation is readable
pub record Continues (i : Init) (keys : ℕ) (p : List ℕ) : Type 0 where
  pub more : List ℕ
  pub readable : Readable i keys (p ++ more)
