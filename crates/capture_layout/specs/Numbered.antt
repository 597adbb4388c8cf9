-- Numbers given back for captures: document 02's 18 to 21, with 1, 2 and 5, each in the row's words. Checker and writer are defined without them.
use Rattle.std.specs.Prelude.{ℕ, zero, suc, ◌+◌, ◌*◌, ◌/◌, ◌%◌, List, [], ◌∷◌, ◌≡◌, Bool, true, false, not, ◌&&◌, ◌||◌, ltb, eqb, length}
use Rattle.std.proofs.Math.Option.{Option, none, some}
use Rattle.refusals.specs.Rows.{marked, Least}
use Rattle.unit.specs.Numbers.{doors_n}
use Rattle.eno.specs.Tep.{is_known}
use Rattle.eno.specs.Walk.{Reading, readable, faulty}
use Rattle.eno.specs.Area.{Finding, refused, unreadable, missing, found, finding, part_of}
use Rattle.eno.specs.Suboption.{Suboption, suboptions, role_bit, aware_bit}
use Rattle.eno.specs.declared.SessionRecord.{SessionRecord}
use Rattle.door.specs.Numbered.{bad_list}
use Rattle.capture_layout.specs.Layout.{Handshake, count_in, place_in, length_in}
use Rattle.capture_layout.specs.Setting.{SettingValue, setting_of, bit_with}
use Rattle.capture_layout.specs.Writing.{length_at, staged}

-- place and length of every body, as the contents say them, in their order
unfoldable pub extents_in : List ℕ → (n i : ℕ) → List (ℕ × ℕ)
extents_in f zero i = []
extents_in f (suc n) i =
    (place_in f i 0, length_in f i 0)
    ∷ (place_in f i 1, length_in f i 1)
    ∷ (place_in f i 2, length_in f i 2)
    ∷ (place_in f i 3, length_in f i 3)
    ∷ extents_in f n (i + 1)

-- 18: a count above 256, a file over size or shorter than its contents
unfoldable pub number18 : List ℕ → Bool
number18 f = ltb 256 (count_in f) || (ltb 65536 (length f) || ltb (length f) (2 + 33 * count_in f))

-- 19: a body past the file's end
unfoldable pub past_end : ℕ → List (ℕ × ℕ) → Bool
past_end size [] = false
past_end size (x ∷ l) = ltb size (x.0 + x.1) || past_end size l

-- 20: a body that begins elsewhere than at the running place, or a rest
unfoldable pub elsewhere : (size at : ℕ) → List (ℕ × ℕ) → Bool
elsewhere size at [] = ltb at size
elsewhere size at (x ∷ l) = not (eqb x.0 at) || elsewhere size (at + x.1) l

unfoldable pub file_rows : List ℕ → List (Bool × ℕ)
file_rows f =
    let l = extents_in f (count_in f) 0 in
    (number18 f, 18) ∷ (past_end (length f) l, 19) ∷ (elsewhere (length f) (2 + 33 * count_in f) l, 20) ∷ []

-- some handshake
unfoldable pub any_of : (Handshake → Bool) → List Handshake → Bool
any_of t [] = false
any_of t (h ∷ l) = t h || any_of t l

-- 1: no such door
unfoldable pub number1 : Handshake → Bool
number1 h = not (ltb h.door doors_n)

-- 2: option area above 40 bytes
unfoldable pub number2 : Handshake → Bool
number2 h = ltb 40 (length h.first) || ltb 40 (length h.second)

-- a record met by number 3: TEP unknown, role not 0 or 1
unfoldable pub bad_record : Option SessionRecord → Bool
bad_record none = false
bad_record (some r) = not (is_known r.tep) || ltb 1 r.role

-- b or a of a well-formed option is another; an ill-formed one is not compared
unfoldable pub differs : ℕ → Bool → Reading (Unit {0}) Suboption → Bool
differs b aware (faulty x) = false
differs b aware (readable l) = not (eqb (role_bit l) b) || not (eqb (aware_bit l) (bit_with 1 aware))

-- nor is anything where the area has no option, by the SYN rule
unfoldable pub differs_in : ℕ → Bool → List ℕ → Finding → Bool
differs_in b aware area refused = false
differs_in b aware area (unreadable x) = false
differs_in b aware area missing = false
differs_in b aware area (found i n) = differs b aware (suboptions (part_of area (found i n)))

-- 21: a setting badly encoded, met by number 3, or with b or a unlike its own well-formed option's
unfoldable pub number21_of : Option SettingValue → List ℕ → Bool
number21_of none area = true
number21_of (some x) area = bad_list x.teps || (x.mandatory && not x.aware) || bad_record x.hand || differs_in x.b x.aware area (finding area true)

unfoldable pub number21 : Handshake → Bool
number21 h = number21_of (setting_of h.first_setting) h.first || number21_of (setting_of h.second_setting) h.second

unfoldable pub handshake_rows : List Handshake → List (Bool × ℕ)
handshake_rows l = (any_of number1 l, 1) ∷ (any_of number2 l, 2) ∷ (any_of number21 l, 21) ∷ []

-- n is the least number of the first rows that applies or, where none does, of the rows after them
pub data LeastOf (first then : List (Bool × ℕ)) (n : ℕ) : Type 0 where
  of_first : Least (λ m. marked m first) n → LeastOf first then n
  of_then : ((m : ℕ) → marked m first ≡ false) → Least (λ m. marked m then) n → LeastOf first then n

-- the writer: the lengths of all bodies
unfoldable pub lengths_of : List ℕ → (n i : ℕ) → List ℕ
lengths_of e zero i = []
lengths_of e (suc n) i = length_at e i 0 ∷ length_at e i 1 ∷ length_at e i 2 ∷ length_at e i 3 ∷ lengths_of e n (i + 1)

unfoldable pub sum : List ℕ → ℕ
sum [] = 0
sum (n ∷ l) = n + sum l

-- bodies of these lengths, one after the other from the place `at` on: one of them runs past the end
unfoldable pub runs_past : (size at : ℕ) → List ℕ → Bool
runs_past size at [] = false
runs_past size at (n ∷ l) = ltb size (at + n) || runs_past size (at + n) l

unfoldable pub writing_rows : (e s : List ℕ) → List (Bool × ℕ)
writing_rows e s =
    let n = length e / 5 in
    let l = lengths_of e n 0 in
    (not (eqb (length e % 5) 0) || (ltb 256 n || ltb 65536 (2 + 33 * n + sum l)), 18)
    ∷ (runs_past (length s) 0 l, 19)
    ∷ (ltb (sum l) (length s), 20)
    ∷ []

-- 5: lent buffer shorter than what is to be written
unfoldable pub staged_rows : (e s o : List ℕ) → List (Bool × ℕ)
staged_rows e s o =
    let n = length e / 5 in
    let l = staged e s in
    (any_of number1 l, 1) ∷ (any_of number2 l, 2) ∷ (ltb (length o) (2 + 33 * n + sum (lengths_of e n 0)), 5) ∷ (any_of number21 l, 21) ∷ []
