-- The checker of captures: 18, 19 and 20 over the whole file first, then 1, 2 and 21 over all handshakes; and what the first end of a handshake judges.
use Rattle.std.specs.Prelude.{ℕ, zero, suc, ◌+◌, List, [], ◌∷◌, Bool, false, not, ◌||◌, ltb, leb, eqb, length}
use Rattle.std.proofs.Math.Option.{Option, none, some}
use Rattle.refusals.specs.Rows.{refusal}
use Rattle.unit.specs.Numbers.{doors_n}
use Rattle.eno.specs.Area.{most_area}
use Rattle.eno.specs.Judge.{Judged, judge}
use Rattle.capture_layout.specs.Layout.{most_file, most_handshakes, contents_size, count_in, door_in, place_in, length_in, end_in, body_in}
use Rattle.capture_layout.specs.Setting.{setting_of, is_unfit, mandatory_in, hand_in}

-- some of the n handshakes from the i-th on
unfoldable pub any_from : (ℕ → Bool) → (n i : ℕ) → Bool
any_from t zero i = false
any_from t (suc n) i = t i || any_from t n (i + 1)

-- some body of handshake i
unfoldable pub any_body : (ℕ → ℕ → Bool) → ℕ → Bool
any_body t i = t i 0 || (t i 1 || (t i 2 || t i 3))

-- 18: a count above 256, a file over size or shorter than its contents
unfoldable pub is_wrong_size : List ℕ → Bool
is_wrong_size f = ltb most_file (length f) || (ltb most_handshakes (count_in f) || ltb (length f) (contents_size (count_in f)))

-- 19: a body past the file's end
unfoldable pub is_past_end : List ℕ → (i k : ℕ) → Bool
is_past_end f i k = ltb (length f) (end_in f i k)

-- where the body before handshake i ends, or the contents
unfoldable pub end_before : List ℕ → ℕ → ℕ
end_before f zero = contents_size (count_in f)
end_before f (suc i) = end_in f i 3

-- where a body is to begin
unfoldable pub expected : List ℕ → (i k : ℕ) → ℕ
expected f i zero = end_before f i
expected f i (suc k) = end_in f i k

-- 20: a body that begins elsewhere, or a rest
unfoldable pub is_misplaced : List ℕ → (i k : ℕ) → Bool
is_misplaced f i k = not (eqb (place_in f i k) (expected f i k))

unfoldable pub has_rest : List ℕ → Bool
has_rest f = ltb (end_before f (count_in f)) (length f)

-- 1, 2 and 21 of handshake i
unfoldable pub is_no_door : List ℕ → ℕ → Bool
is_no_door f i = leb doors_n (door_in f i)

unfoldable pub is_long_area : List ℕ → ℕ → Bool
is_long_area f i = ltb most_area (length_in f i 0) || ltb most_area (length_in f i 1)

unfoldable pub is_bad_setting : List ℕ → ℕ → Bool
is_bad_setting f i = is_unfit (body_in f i 2) (body_in f i 0) || is_unfit (body_in f i 3) (body_in f i 1)

-- the number of the first test of two lists that holds, the first list before the second
abbrev pub or_else : Option ℕ → Option ℕ → Option ℕ
or_else none y = y
or_else (some n) y = some n

unfoldable pub refused_first : List ℕ → Option ℕ
refused_first f = refusal (
    (is_wrong_size f, 18)
    ∷ (any_from (any_body (is_past_end f)) (count_in f) 0, 19)
    ∷ (any_from (any_body (is_misplaced f)) (count_in f) 0 || has_rest f, 20)
    ∷ []
    )

unfoldable pub refused_then : List ℕ → Option ℕ
refused_then f = refusal (
    (any_from (is_no_door f) (count_in f) 0, 1)
    ∷ (any_from (is_long_area f) (count_in f) 0, 2)
    ∷ (any_from (is_bad_setting f) (count_in f) 0, 21)
    ∷ []
    )

-- what the checker says: sound, with the number of handshakes, or the number of its refusal
pub data Checked : Type 0 where
  sound : ℕ → Checked
  refused_with : ℕ → Checked

abbrev pub sound_unless : Option ℕ → ℕ → Checked
sound_unless none n = sound n
sound_unless (some m) n = refused_with m

unfoldable pub checked : List ℕ → Checked
checked f = sound_unless (or_else (refused_first f) (refused_then f)) (count_in f)

-- what the first end of handshake i judges
unfoldable pub first_end : List ℕ → ℕ → Judged
first_end f i =
    let x = setting_of (body_in f i 2) in
    judge (mandatory_in x) (hand_in x) (body_in f i 0) (body_in f i 1)
