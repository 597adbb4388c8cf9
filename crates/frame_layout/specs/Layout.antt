-- The layout of frame headers and plaintexts (document 01, "Frames and generations"; RFC 8548, 4.2).
use Rattle.std.specs.Prelude.{ℕ, ◌+◌, ◌/◌, ◌%◌, List, [], ◌∷◌, ◌++◌, Bool, cond, ◌||◌, ltb, eqb}
use Rattle.wire.specs.Bytes.{part}
use Rattle.wire.specs.Number.{big_endian}

-- bits 0 and 1 of a byte
unfoldable pub bit0 : ℕ → Bool
bit0 x = eqb (x % 2) 1

unfoldable pub bit1 : ℕ → Bool
bit1 x = eqb (x / 2 % 2) 1

-- a header: control, whose bit 0 is rekey, then the 2-byte ciphertext length
unfoldable pub header : (control clen : ℕ) → List ℕ
header control clen = control ∷ big_endian 2 clen

-- the control byte that is sent: the other bits are zero
unfoldable pub control_sent : Bool → ℕ
control_sent rekey = cond rekey 1 0

-- the associated data of a frame: its header's three bytes, as received
unfoldable pub associated : List ℕ → List ℕ
associated s = part 0 3 s

-- the offset after a frame: three bytes of header, then the ciphertext
unfoldable pub next_offset : (offset clen : ℕ) → ℕ
next_offset offset clen = offset + 3 + clen

-- the tag has 16 bytes, so lengths run 17 to 65,535, and the plaintext that is sent has at most 65,519
unfoldable pub least_length : ℕ
least_length = 17

unfoldable pub most_length : ℕ
most_length = 65535

unfoldable pub most_plaintext : ℕ
most_plaintext = 65519

-- 2^64 - 1
unfoldable pub most_offset : ℕ
most_offset = 0xffffffffffffffff

-- no frame of this length begins at this offset
unfoldable pub no_frame : (offset clen : ℕ) → Bool
no_frame offset clen = ltb clen least_length || ltb most_length clen || ltb most_offset (next_offset offset clen)

-- the flags that are sent: bit 0 is FINp, bit 1 is URGp, the others are zero
unfoldable pub flags_sent : (fin urg : Bool) → ℕ
flags_sent fin urg = cond fin 1 0 + cond urg 2 0

-- how many bytes stand before the data
unfoldable pub heading_length : Bool → ℕ
heading_length urg = cond urg 3 1

-- flags, then the 2-byte urgent field if URGp
unfoldable pub heading : (flags urgent : ℕ) → List ℕ
heading flags urgent = flags ∷ cond (bit1 flags) (big_endian 2 urgent) []

-- a plaintext: flags, urgent if URGp, data
unfoldable pub plaintext : (flags urgent : ℕ) → List ℕ → List ℕ
plaintext flags urgent payload = heading flags urgent ++ payload
