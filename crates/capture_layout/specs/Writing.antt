-- The writer of captures: five numbers for each handshake, its door and the lengths of its four bodies, and all bodies one after the other.
use Rattle.std.specs.Prelude.{ℕ, zero, suc, ◌+◌, ◌*◌, ◌/◌, ◌%◌, List, [], ◌∷◌, Bool, false, not, ◌||◌, ltb, leb, eqb, length, get_or}
use Rattle.std.proofs.Math.Option.{Option, none, some}
use Rattle.wire.specs.Bytes.{part, pasted}
use Rattle.refusals.specs.Rows.{refusal}
use Rattle.unit.specs.Numbers.{doors_n}
use Rattle.eno.specs.Area.{most_area}
use Rattle.eno.specs.Option.{Written, written_as, wrote, refused_with}
use Rattle.capture_layout.specs.Layout.{Handshake, handshake_with, most_file, most_handshakes, contents_size, file_of}
use Rattle.capture_layout.specs.Setting.{is_unfit}
use Rattle.capture_layout.specs.Checking.{any_from, or_else}

-- how many handshakes the numbers say
unfoldable pub count_of : List ℕ → ℕ
count_of e = length e / 5

-- handshake i's door, and the length of its body k
unfoldable pub door_at : List ℕ → ℕ → ℕ
door_at e i = get_or e (5 * i) 0

unfoldable pub length_at : List ℕ → (i k : ℕ) → ℕ
length_at e i k = get_or e (5 * i + 1 + k) 0

-- how many bytes the bodies of handshake i have
unfoldable pub bodies_at : List ℕ → ℕ → ℕ
bodies_at e i = length_at e i 0 + length_at e i 1 + length_at e i 2 + length_at e i 3

-- and those of n handshakes from the i-th on
unfoldable pub bodies_size : List ℕ → (n i : ℕ) → ℕ
bodies_size e zero i = 0
bodies_size e (suc n) i = bodies_at e i + bodies_size e n (i + 1)

unfoldable pub all_size : List ℕ → ℕ
all_size e = bodies_size e (count_of e) 0

-- how many bytes the file has
unfoldable pub file_size : List ℕ → ℕ
file_size e = contents_size (count_of e) + all_size e

-- handshake i, whose bodies stand from the place `at` of all bodies on
unfoldable pub staged_at : (e s : List ℕ) (i at : ℕ) → Handshake
staged_at e s i at =
    let second = at + length_at e i 0 in
    let third = second + length_at e i 1 in
    let fourth = third + length_at e i 2 in
    handshake_with (door_at e i) (part at (length_at e i 0) s) (part second (length_at e i 1) s) (part third (length_at e i 2) s) (part fourth (length_at e i 3) s)

unfoldable pub staged_from : (e s : List ℕ) (n i at : ℕ) → List Handshake
staged_from e s zero i at = []
staged_from e s (suc n) i at = staged_at e s i at ∷ staged_from e s n (i + 1) (at + bodies_at e i)

-- the handshakes that are to be written
unfoldable pub staged : (e s : List ℕ) → List Handshake
staged e s = staged_from e s (count_of e) 0 0

-- 18: numbers that are not five each, a count above 256, a file over size
unfoldable pub is_wrong_count : List ℕ → Bool
is_wrong_count e = not (eqb (length e % 5) 0) || (ltb most_handshakes (count_of e) || ltb most_file (file_size e))

-- 1 and 2 of handshake i
unfoldable pub is_no_door_at : List ℕ → ℕ → Bool
is_no_door_at e i = leb doors_n (door_at e i)

unfoldable pub is_long_area_at : List ℕ → ℕ → Bool
is_long_area_at e i = ltb most_area (length_at e i 0) || ltb most_area (length_at e i 1)

-- 21 of a handshake, and of some
unfoldable pub is_unfit_in : Handshake → Bool
is_unfit_in h = is_unfit h.first_setting h.first || is_unfit h.second_setting h.second

unfoldable pub unfit_from : (e s : List ℕ) (n i at : ℕ) → Bool
unfit_from e s zero i at = false
unfit_from e s (suc n) i at = is_unfit_in (staged_at e s i at) || unfit_from e s n (i + 1) (at + bodies_at e i)

-- 19: a body past the end of all bodies; 20: bodies that are left over
unfoldable pub writing_first : (e s : List ℕ) → Option ℕ
writing_first e s = refusal ((is_wrong_count e, 18) ∷ (ltb (length s) (all_size e), 19) ∷ (ltb (all_size e) (length s), 20) ∷ [])

-- 5: a lent buffer of fewer bytes than the file
unfoldable pub writing_then : (e s : List ℕ) (room : ℕ) → Option ℕ
writing_then e s room = refusal (
    (any_from (is_no_door_at e) (count_of e) 0, 1)
    ∷ (any_from (is_long_area_at e) (count_of e) 0, 2)
    ∷ (ltb room (file_size e), 5)
    ∷ (unfit_from e s (count_of e) 0 0, 21)
    ∷ []
    )

abbrev pub written_unless : Option ℕ → (o file : List ℕ) → Written
written_unless none o file = written_as (wrote (length file)) (pasted o 0 file)
written_unless (some n) o file = written_as (refused_with n) o

-- the file of the handshakes at the start of the lent buffer o, and the rest of it as it was
unfoldable pub write_capture : (e s o : List ℕ) → Written
write_capture e s o = written_unless (or_else (writing_first e s) (writing_then e s (length o))) o (file_of (staged e s))
