-- Capture files (document 02, (x)): a table of contents, then the bodies. What a file of handshakes is, and what a reader sees at each place of any bytes.
use Rattle.std.specs.Prelude.{ℕ, zero, suc, ◌+◌, ◌*◌, List, [], ◌∷◌, ◌++◌, Bool, cond, ◌&&◌, ltb, leb, length, get_or}
use Rattle.wire.specs.Bytes.{part}
use Rattle.wire.specs.Number.{big_endian, number_at}

-- a handshake: its door, the first and the second option area, the first and the second end's setting
pub record Handshake : Type 0 where
  pub door : ℕ
  pub first : List ℕ
  pub second : List ℕ
  pub first_setting : List ℕ
  pub second_setting : List ℕ

abbrev pub handshake_with : ℕ → (first second first_setting second_setting : List ℕ) → Handshake
handshake_with d a b s t = record { door = d; first = a; second = b; first_setting = s; second_setting = t }

-- its four bodies, in the file's order
abbrev pub bodies_of : Handshake → List (List ℕ)
bodies_of h = h.first ∷ h.second ∷ h.first_setting ∷ h.second_setting ∷ []

-- bodies one after the other
unfoldable pub joined : List (List ℕ) → List ℕ
joined [] = []
joined (b ∷ l) = b ++ joined l

unfoldable pub size_of : Handshake → ℕ
size_of h = length h.first + length h.second + length h.first_setting + length h.second_setting

unfoldable pub all_bodies : List Handshake → List ℕ
all_bodies [] = []
all_bodies (h ∷ l) = joined (bodies_of h) ++ all_bodies l

-- the contents have a 2-byte count and 33 bytes for each handshake
unfoldable pub contents_size : ℕ → ℕ
contents_size n = 2 + 33 * n

-- place and length of each body, 4 bytes each, from the place `at` on: each begins where the one before it ends
unfoldable pub extents : ℕ → List (List ℕ) → List ℕ
extents at [] = []
extents at (b ∷ l) = big_endian 4 at ++ (big_endian 4 (length b) ++ extents (at + length b) l)

-- for each handshake the door in one byte, and place and length of its bodies
unfoldable pub entries : ℕ → List Handshake → List ℕ
entries at [] = []
entries at (h ∷ l) = h.door ∷ (extents at (bodies_of h) ++ entries (at + size_of h) l)

-- the file of a list of handshakes
unfoldable pub file_of : List Handshake → List ℕ
file_of l = big_endian 2 (length l) ++ (entries (contents_size (length l)) l ++ all_bodies l)

-- files are at most 65,536 bytes, and have up to 256 handshakes
abbrev pub most_file : ℕ
most_file = 65536

abbrev pub most_handshakes : ℕ
most_handshakes = 256

-- by place, as a reader sees it: the count, and handshake i's door
unfoldable pub count_in : List ℕ → ℕ
count_in f = number_at 2 f 0

unfoldable pub door_in : List ℕ → ℕ → ℕ
door_in f i = get_or f (2 + 33 * i) 0

-- its body k (0 first area, 1 second area, 2 first setting, 3 second setting): the place and length that the contents say, and where it ends
unfoldable pub place_in : List ℕ → (i k : ℕ) → ℕ
place_in f i k = number_at 4 f (3 + 33 * i + 8 * k)

unfoldable pub length_in : List ℕ → (i k : ℕ) → ℕ
length_in f i k = number_at 4 f (7 + 33 * i + 8 * k)

unfoldable pub end_in : List ℕ → (i k : ℕ) → ℕ
end_in f i k = place_in f i k + length_in f i k

-- there is such a body, and it does not run past the file's end
unfoldable pub is_body : List ℕ → (i k : ℕ) → Bool
is_body f i k = ltb i (count_in f) && ltb k 4 && leb (end_in f i k) (length f)

-- the body, none where there is none
unfoldable pub body_in : List ℕ → (i k : ℕ) → List ℕ
body_in f i k = cond (is_body f i k) (part (place_in f i k) (length_in f i k) f) []

unfoldable pub handshake_in : List ℕ → ℕ → Handshake
handshake_in f i = handshake_with (door_in f i) (body_in f i 0) (body_in f i 1) (body_in f i 2) (body_in f i 3)

-- n handshakes from the i-th on
unfoldable pub handshakes_from : List ℕ → (n i : ℕ) → List Handshake
handshakes_from f zero i = []
handshakes_from f (suc n) i = handshake_in f i ∷ handshakes_from f n (i + 1)

-- the handshakes of a file
unfoldable pub handshakes_in : List ℕ → List Handshake
handshakes_in f = handshakes_from f (count_in f) 0
