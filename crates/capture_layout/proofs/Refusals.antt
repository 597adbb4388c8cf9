-- A capture is refused with n exactly when n is the least number that applies: of 18 to 20 first, then of the others. Assumes nothing.
use Rattle.std.specs.Prelude.{ℕ, zero, suc, ◌+◌, ◌*◌, ◌≤◌, ◌<◌, ◌≡◌, refl, List, [], ◌∷◌, Bool, true, false, cond, not, ◌&&◌, ◌||◌, ◌↔◌, leb, eqb, length}
use Rattle.std.proofs.Common.{sym, ◌∙◌, ap, true≢false, add-zero, add-one, eq-eqb, eqb-true, lt-ltb, le-ltb, le-leb}
use Rattle.std.proofs.Math.Path.{ap₂}
use Rattle.std.proofs.lemmas.Bool.{lt-leb}
use Rattle.std.proofs.Math.Option.{Option, none, some}
use native.Mathlib.Omega.{arith}
use Rattle.std.proofs.Math.Decide.{dec_lt}
use Rattle.std.proofs.Math.Dec.{ltb}
use Rattle.refusals.specs.Rows.{refusal, marked, Rising}
use Rattle.refusals.specs.RowLaws.{first_is_least}
use Rattle.unit.specs.Numbers.{doors_n}
use Rattle.eno.specs.Tep.{is_known}
use Rattle.eno.specs.Walk.{Reading, readable, faulty, listed}
use Rattle.eno.specs.Area.{Finding, refused, unreadable, missing, found, finding, part_of, syn_option}
use Rattle.eno.specs.Suboption.{Suboption, suboptions, is_ill_formed, role_bit, aware_bit}
use Rattle.eno.specs.Judge.{role_of, aware_of}
use Rattle.eno.specs.declared.SessionRecord.{SessionRecord}
use Rattle.door.specs.Numbered.{bad_list}
use Rattle.door.proofs.SameTests.{answer_terms_lem}
use Rattle.capture_layout.specs.Layout.{Handshake, contents_size, count_in, door_in, place_in, length_in, end_in, body_in, handshake_in, handshakes_from, handshakes_in}
use Rattle.capture_layout.specs.Setting.{SettingValue, setting_of, bit_with, is_record, is_found, is_unlike, is_refused, refused_or, is_unfit}
use Rattle.capture_layout.specs.Checking.{any_from, any_body, is_wrong_size, is_past_end, end_before, expected, is_misplaced, has_rest, is_no_door, is_long_area, is_bad_setting, or_else, refused_first, refused_then, refused_with, sound_unless, checked}
use Rattle.capture_layout.specs.CheckingLaws.{Laid}
use Rattle.capture_layout.proofs.CheckingLaws.{any_same, laid, body_length}
use Rattle.capture_layout.specs.Numbered.{extents_in, number18, past_end, elsewhere, file_rows, any_of, number1, number2, bad_record, differs, differs_in, number21_of, number21, handshake_rows, LeastOf, of_first, of_then}

-- rows of which none applies
none_marked : (l : List (Bool × ℕ)) → refusal l ≡ none → (m : ℕ) → marked m l ≡ false
unfolding refusal marked
none_marked [] e m = refl
none_marked (t ∷ l) e m = go t.0 e (λ q. none_marked l q m)
  where
    go : (b : Bool) → cond b (some t.1) (refusal l) ≡ none → (refusal l ≡ none → marked m l ≡ false) → b && eqb t.1 m || marked m l ≡ false
    go true e rest = let z : ◌≡◌ {A = ℕ} 0 1 = cc in absurd (omega arith)
    go false e rest = rest e

marked_none : (l : List (Bool × ℕ)) → ((m : ℕ) → marked m l ≡ false) → refusal l ≡ none
unfolding refusal marked
marked_none [] h = refl
marked_none (t ∷ l) h = go t.0 h (λ q. marked_none l q)
  where
    go : (b : Bool) → ((m : ℕ) → b && eqb t.1 m || marked m l ≡ false) → (((m : ℕ) → marked m l ≡ false) → refusal l ≡ none) → cond b (some t.1) (refusal l) ≡ none
    go true h rest = let z : eqb t.1 t.1 || marked t.1 l ≡ false = h t.1 in absurd (true≢false (sym (rw (eq-eqb t.1 t.1 refl)) ∙ z))
    go false h rest = rest h

-- two lists of rows, the second asked only where the first has none
module _ (a b : List (Bool × ℕ)) (n : ℕ) (j k : ℕ) (ra : Rising j a) (rb : Rising k b) (x y : Option ℕ) (ea : x ≡ refusal a) (eb : refusal a ≡ none → y ≡ refusal b) where
  of_rows : (r : Option ℕ) → refusal a ≡ r → or_else r y ≡ some n → LeastOf a b n
  of_rows none q e = of_then (none_marked a q) ((first_is_least b k rb n).0 (sym (eb q) ∙ e))
  of_rows (some m) q e = of_first ((first_is_least a j ra n).0 (q ∙ e))

  rows_of : LeastOf a b n → or_else (refusal a) y ≡ some n
  rows_of (of_first l) = ap (λ r. or_else r y) ((first_is_least a j ra n).1 l)
  rows_of (of_then h l) = let q = marked_none a h in ap (λ r. or_else r y) q ∙ (eb q ∙ (first_is_least b k rb n).1 l)

  pub least_of_two : (or_else x y ≡ some n) ↔ LeastOf a b n
  least_of_two = (λ e. of_rows (refusal a) refl (ap (λ r. or_else r y) (sym ea) ∙ e), λ l. ap (λ r. or_else r y) ea ∙ rows_of l)

-- 18
swap : (a b c : Bool) → a || (b || c) ≡ b || (a || c)
swap true true c = refl
swap true false c = refl
swap false b c = refl

size_row : (f : List ℕ) → is_wrong_size f ≡ number18 f
unfolding is_wrong_size number18 contents_size
size_row f = swap (ltb 65536 (length f)) (ltb 256 (count_in f)) (ltb (length f) (2 + 33 * count_in f))

-- 19
or_four : (a b c d r : Bool) → a || (b || (c || (d || r))) ≡ (a || (b || (c || d))) || r
or_four true b c d r = refl
or_four false true c d r = refl
or_four false false true d r = refl
or_four false false false d r = refl

past_rows : (f : List ℕ) (n i : ℕ) → any_from (any_body (is_past_end f)) n i ≡ past_end (length f) (extents_in f n i)
unfolding any_from any_body is_past_end end_in past_end extents_in
past_rows f zero i = refl
past_rows f (suc n) i =
    ap (λ b. any_body (is_past_end f) i || b) (past_rows f n (i + 1))
    ∙ sym (or_four (is_past_end f i 0) (is_past_end f i 1) (is_past_end f i 2) (is_past_end f i 3) (past_end (length f) (extents_in f n (i + 1))))

-- 20: where a body begins at the running place, the place after it is its end
run : (p at : ℕ) (g : ℕ → Bool) (n : ℕ) → not (eqb p at) || g (at + n) ≡ not (eqb p at) || g (p + n)
run p at g n = go (eqb p at) refl
  where
    go : (b : Bool) → eqb p at ≡ b → not b || g (at + n) ≡ not b || g (p + n)
    go true e = ap (λ x. g (x + n)) (sym (eqb-true _ _ e))
    go false e = refl

or_three : (a b c : Bool) → a || (b || c) ≡ (a || b) || c
or_three true b c = refl
or_three false b c = refl

elsewhere_rows : (f : List ℕ) (n i : ℕ) → any_from (any_body (is_misplaced f)) n i || ltb (end_before f (i + n)) (length f) ≡ elsewhere (length f) (end_before f i) (extents_in f n i)
unfolding any_from any_body is_misplaced elsewhere extents_in expected end_in end_before
elsewhere_rows f zero i = ap (λ k. ltb (end_before f k) (length f)) (add-zero i)
elsewhere_rows f (suc n) i =
    let size = length f in
    let rest = extents_in f n (i + 1) in
    let m = is_misplaced f i in
    let e : i + 1 + n ≡ i + suc n = omega arith in
    let again : any_from (any_body (is_misplaced f)) n (i + 1) || ltb (end_before f (i + suc n)) size ≡ elsewhere size (end_in f i 3) rest =
    ap (λ k. any_from (any_body (is_misplaced f)) n (i + 1) || ltb (end_before f k) size) (sym e) ∙ (elsewhere_rows f n (i + 1) ∙ ap (λ k. elsewhere size (end_before f k) rest) (add-one i)) in
    sym (or_three (any_body m' i) (any_from (any_body (is_misplaced f)) n (i + 1)) (ltb (end_before f (i + suc n)) size))
    ∙ (ap (λ b. any_body m' i || b) again
    ∙ (sym (or_four (m 0) (m 1) (m 2) (m 3) (elsewhere size (end_in f i 3) rest))
    ∙ sym (run (place_in f i 0) (end_before f i) (λ at. elsewhere size at ((place_in f i 1, length_in f i 1) ∷ (place_in f i 2, length_in f i 2) ∷ (place_in f i 3, length_in f i 3) ∷ rest)) (length_in f i 0)
    ∙ ap (λ b. m 0 || b) (run (place_in f i 1) (end_in f i 0) (λ at. elsewhere size at ((place_in f i 2, length_in f i 2) ∷ (place_in f i 3, length_in f i 3) ∷ rest)) (length_in f i 1)
    ∙ ap (λ b. m 1 || b) (run (place_in f i 2) (end_in f i 1) (λ at. elsewhere size at ((place_in f i 3, length_in f i 3) ∷ rest)) (length_in f i 2)
    ∙ ap (λ b. m 2 || b) (run (place_in f i 3) (end_in f i 2) (λ at. elsewhere size at rest) (length_in f i 3)))))))
  where
    m' : ℕ → ℕ → Bool
    m' = is_misplaced f

rest_row : (f : List ℕ) → any_from (any_body (is_misplaced f)) (count_in f) 0 || has_rest f ≡ elsewhere (length f) (2 + 33 * count_in f) (extents_in f (count_in f) 0)
unfolding has_rest end_before contents_size
rest_row f =
    let e : 0 + count_in f ≡ count_in f = omega arith in
    ap (λ k. any_from (any_body (is_misplaced f)) (count_in f) 0 || ltb (end_before f k) (length f)) (sym e) ∙ elsewhere_rows f (count_in f) 0

first_rows : (f : List ℕ) → refused_first f ≡ refusal (file_rows f)
unfolding refused_first file_rows refusal
first_rows f = rw (size_row f, past_rows f (count_in f) 0, rest_row f)

-- 21
pub record_row : (r : Option SessionRecord) → not (is_record r) ≡ bad_record r
unfolding is_record bad_record
record_row none = refl
record_row (some r) = go (is_known r.tep) (dec_lt 1 r.role)
  where
    go : (k : Bool) → Dec (1 < r.role) → not (k && leb r.role 1) ≡ not k || ltb 1 r.role
    go false d = refl
    go true (yes h) = rw (lt-leb _ _ h, lt-ltb _ _ h)
    go true (no h) = let l : r.role ≤ 1 = omega arith in rw (le-leb _ _ l, le-ltb _ _ l)

not_and : (a b : Bool) → not (a && b) ≡ not a || not b
not_and true b = refl
not_and false b = refl

unlike_row : (b : ℕ) (aware : Bool) (area : List ℕ) → is_unlike b aware area ≡ differs_in b aware area (finding area true)
unfolding is_unlike differs_in differs syn_option role_of aware_of is_ill_formed
unlike_row b aware area = go (finding area true)
  where
    inside : (r : Reading (Unit {0}) Suboption) → not (is_ill_formed r) && not (eqb (role_bit (listed r)) b && eqb (aware_bit (listed r)) (bit_with 1 aware)) ≡ differs b aware r
    inside (readable l) = not_and (eqb (role_bit l) b) (eqb (aware_bit l) (bit_with 1 aware))
    inside (faulty x) = refl

    go : (x : Finding) → is_found x && not (is_ill_formed (suboptions (part_of area x))) && not (eqb (role_of (part_of area x)) b && eqb (aware_of (part_of area x)) (bit_with 1 aware)) ≡ differs_in b aware area x
    go refused = refl
    go (unreadable x) = refl
    go missing = refl
    go (found i n) = inside (suboptions (part_of area (found i n)))

no_nonce : (a b : Bool) → a || ltb 8 0 || b ≡ a || b
no_nonce true b = refl
no_nonce false b = refl

pub setting_row : (s area : List ℕ) → is_unfit s area ≡ number21_of (setting_of s) area
unfolding is_unfit is_refused number21_of
setting_row s area = go (setting_of s)
  where
    go : (x : Option SettingValue) → refused_or x area ≡ number21_of x area
    go none = refl
    go (some x) =
        ap₂ (λ p q. p || q || is_unlike x.b x.aware area) (answer_terms_lem x.aware x.mandatory x.teps [] ∙ no_nonce (bad_list x.teps) (x.mandatory && not x.aware)) (record_row x.hand)
        ∙ ap (λ u. bad_list x.teps || (x.mandatory && not x.aware) || bad_record x.hand || u) (unlike_row x.b x.aware area)

-- tests over the handshakes of a file
of_handshakes : (f : List ℕ) (p : Handshake → Bool) (n i : ℕ) → any_from (λ j. p (handshake_in f j)) n i ≡ any_of p (handshakes_from f n i)
unfolding any_from any_of handshakes_from
of_handshakes f p zero i = refl
of_handshakes f p (suc n) i = ap (λ b. p (handshake_in f i) || b) (of_handshakes f p n (i + 1))

pub not_less : (a b : ℕ) → leb b a ≡ not (ltb a b)
not_less a b = elim (dec_lt a b) [
  | yes h ↦ rw (lt-leb _ _ h, lt-ltb _ _ h)
  | no h ↦ let l : b ≤ a = omega arith in rw (le-leb _ _ l, le-ltb _ _ l)
]

module _ (f : List ℕ) (l : Laid f) where
  door_row : any_from (is_no_door f) (count_in f) 0 ≡ any_of number1 (handshakes_in f)
  unfolding is_no_door handshake_in number1 handshakes_in
  door_row = any_same (is_no_door f) (λ j. number1 (handshake_in f j)) (count_in f) 0 (λ j h k. not_less (door_in f j) doors_n) ∙ of_handshakes f number1 (count_in f) 0

  area_row : any_from (is_long_area f) (count_in f) 0 ≡ any_of number2 (handshakes_in f)
  unfolding is_long_area handshake_in number2 handshakes_in
  area_row =
      any_same (is_long_area f) (λ j. number2 (handshake_in f j)) (count_in f) 0
      (λ j h q. let k : j < count_in f = omega arith in ap₂ (λ a b. ltb 40 a || ltb 40 b)
      (sym (body_length f j 0 k (omega arith) (l.within j 0 k (omega arith))))
      (sym (body_length f j 1 k (omega arith) (l.within j 1 k (omega arith)))))
      ∙ of_handshakes f number2 (count_in f) 0

  settings_row : any_from (is_bad_setting f) (count_in f) 0 ≡ any_of number21 (handshakes_in f)
  unfolding is_bad_setting handshake_in number21 handshakes_in
  settings_row =
      any_same (is_bad_setting f) (λ j. number21 (handshake_in f j)) (count_in f) 0
      (λ j h k. ap₂ (λ a b. a || b) (setting_row (body_in f j 2) (body_in f j 0)) (setting_row (body_in f j 3) (body_in f j 1)))
      ∙ of_handshakes f number21 (count_in f) 0

  pub then_rows : refused_then f ≡ refusal (handshake_rows (handshakes_in f))
  unfolding refused_then handshake_rows refusal
  then_rows = rw (door_row, area_row, settings_row)

file_rise : (f : List ℕ) → Rising 0 (file_rows f)
unfolding file_rows
file_rise f = (omega arith, (omega arith, (omega arith, tt)))

handshakes_rise : (l : List Handshake) → Rising 0 (handshake_rows l)
unfolding handshake_rows
handshakes_rise l = (omega arith, (omega arith, (omega arith, tt)))

sound_not : (x : Option ℕ) (n m : ℕ) → (sound_unless x m ≡ refused_with n) ↔ (x ≡ some n)
sound_not none n m = (λ e. let z : ◌≡◌ {A = ℕ} 0 1 = cc in absurd (omega arith), λ e. let z : ◌≡◌ {A = ℕ} 0 1 = cc in absurd (omega arith))
sound_not (some k) n m = (λ e. let q : k ≡ n = cc in ap some q, λ e. let q : k ≡ n = cc in ap refused_with q)

-- the checker refuses with n exactly when n is the least of 18, 19, 20 that applies, or none of these does and n is the least of 1, 2, 21 that does
pub refused_exactly : (f : List ℕ) (n : ℕ) → (checked f ≡ refused_with n) ↔ LeastOf (file_rows f) (handshake_rows (handshakes_in f)) n
unfolding checked
refused_exactly f n =
    let both = least_of_two (file_rows f) (handshake_rows (handshakes_in f)) n 0 0 (file_rise f) (handshakes_rise (handshakes_in f)) (refused_first f) (refused_then f) (first_rows f) (λ q. then_rows f (laid f (first_rows f ∙ q))) in
    let one = sound_not (or_else (refused_first f) (refused_then f)) n (count_in f) in
    (λ e. both.0 (one.0 e), λ e. one.1 (both.1 e))
