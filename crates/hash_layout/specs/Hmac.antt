-- HMAC (RFC 2104, 2) over SHA-256, whose block has 64 bytes.
use Rattle.std.specs.Prelude.{ℕ, ◌-◌, List, ◌++◌, map, cond, leb, length, replicate}
use Rattle.std.specs.Int.Bits.{bit_xor}
use Rattle.hash_layout.specs.Sha256.{sha256}

-- zeros are appended to the end of K to create a string of a block's length
unfoldable pub block_of : List ℕ → List ℕ
block_of k = k ++ replicate (64 - length k) 0

-- keys longer than a block are first hashed
unfoldable pub key_block : List ℕ → List ℕ
key_block k = cond (leb (length k) 64) (block_of k) (block_of (sha256 k))

unfoldable pub xor_all : ℕ → List ℕ → List ℕ
xor_all x b = map (λ (y : ℕ). bit_xor y x) b

-- H(K XOR opad, H(K XOR ipad, text))
unfoldable pub hmac : List ℕ → List ℕ → List ℕ
hmac key text = sha256 (xor_all 0x5c (key_block key) ++ sha256 (xor_all 0x36 (key_block key) ++ text))
