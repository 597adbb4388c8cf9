-- Hex words: the bytes that a word says, and the text of bytes. Two lower-case digits are a byte, the high one first; - is no bytes.
use Rattle.std.specs.Prelude.{ℕ, ◌+◌, ◌*◌, ◌-◌, ◌/◌, ◌%◌, List, [], ◌∷◌, Bool, true, cond, ◌&&◌, leb, ltb, eqb, length}
use Rattle.std.specs.Prelude.{Option, None, Some}
use Rattle.wire.specs.Bytes.{same_bytes, pasted}

-- the value of a hex digit; 16 where it is none
unfoldable pub hex_value : ℕ → ℕ
hex_value c = cond (leb 48 c && leb c 57) (c - 48) (cond (leb 97 c && leb c 102) (c - 87) 16)

-- the digit of a value below 16
unfoldable pub hex_digit : ℕ → ℕ
hex_digit n = cond (ltb n 10) (48 + n) (87 + n)

-- the byte that two hex digits say; none where one is no digit
unfoldable pub pair_said : ℕ → ℕ → Option ℕ
pair_said a b = cond (ltb (hex_value a) 16 && ltb (hex_value b) 16) (Some (hex_value a * 16 + hex_value b)) None

-- each is a hex digit
unfoldable pub all_hex : List ℕ → Bool
all_hex [] = true
all_hex (c ∷ w) = ltb (hex_value c) 16 && all_hex w

-- the bytes that pairs of hex digits say
unfoldable pub pairs : List ℕ → List ℕ
pairs [] = []
pairs (a ∷ []) = []
pairs (a ∷ (b ∷ w)) = (hex_value a * 16 + hex_value b) ∷ pairs w

abbrev pub dash : List ℕ
dash = 0x2d ∷ []

-- pairs of hex digits, one at least
unfoldable pub is_pairs : List ℕ → Bool
is_pairs w = ltb 0 (length w) && (eqb (length w % 2) 0 && all_hex w)

-- the bytes that a word says
unfoldable pub bytes_said : List ℕ → Option (List ℕ)
bytes_said w = cond (same_bytes w dash) (Some []) (cond (is_pairs w) (Some (pairs w)) None)

-- no more bytes than n
unfoldable pub at_most : ℕ → Option (List ℕ) → Option (List ℕ)
at_most n None = None
at_most n (Some l) = cond (leb (length l) n) (Some l) None

-- how many bytes
unfoldable pub count_of : Option (List ℕ) → Option ℕ
count_of None = None
count_of (Some l) = Some (length l)

-- a buffer that bytes are put at the beginning of; as it was where there are none
unfoldable pub holding : List ℕ → Option (List ℕ) → List ℕ
holding s None = s
holding s (Some l) = pasted s 0 l

-- two digits a byte
unfoldable pub hex_digits : List ℕ → List ℕ
hex_digits [] = []
hex_digits (b ∷ l) = hex_digit (b / 16) ∷ (hex_digit (b % 16) ∷ hex_digits l)

-- the text of bytes
unfoldable pub hex_text : List ℕ → List ℕ
hex_text [] = dash
hex_text (b ∷ l) = hex_digits (b ∷ l)
