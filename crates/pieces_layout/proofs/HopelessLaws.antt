-- 11 is given at the first byte after which no header avoids it: a header is hopeless exactly when every way to go on ends in 11. Assumes nothing.
use Rattle.std.specs.Prelude.{ℕ, ◌+◌, ◌*◌, ◌≤◌, ◌<◌, ◌≡◌, refl, List, [], ◌∷◌, ◌++◌, Bool, true, false, ◌&&◌, ◌||◌, ◌↔◌, ltb, length, get_or}
use Rattle.std.proofs.Common.{sym, ◌∙◌, ap, arith, ltb-true, lt-ltb, le-ltb}
use Rattle.std.proofs.lemmas.Bool.{false≢true}
use Rattle.std.proofs.Math.Option.{Option, none, some}
use Rattle.std.proofs.Math.Decide.{dec_lt}
use Rattle.wire.specs.Bytes.{Bytes, bytes_from}
use Rattle.wire.specs.Number.{number, number_after, number_at}
use Rattle.refusals.specs.Rows.{refusal}
use Rattle.frame_layout.specs.Layout.{least_length, most_length, most_offset, next_offset, no_frame}
use Rattle.frame_layout.specs.Outcome.{refused, unless}
use Rattle.frame_layout.specs.Calls.{read_header, length_in, header_in, outcome}
use Rattle.frame_layout.specs.Refusals.{refused_by}
use Rattle.pieces_layout.specs.Step.{least_in, hopeless}
use Rattle.pieces_layout.specs.HopelessLaws.{Eleven}

-- a header of three bytes or more is refused with 11 exactly where no frame of its length begins
told_eleven : (s : List ℕ) (o : ℕ) → 3 ≤ length s → no_frame o (length_in s) ≡ true → (outcome (read_header s o)).reply ≡ refused 11
unfolding outcome refusal unless
told_eleven s o h e = rw (le-ltb (length s) 3 h, e)

told_header : (s : List ℕ) (o : ℕ) → 3 ≤ length s → no_frame o (length_in s) ≡ false → refused_by (outcome (read_header s o)).reply ≡ none
unfolding outcome refusal unless header_in
told_header s o h e = rw (le-ltb (length s) 3 h, e)

eleven_told : (s : List ℕ) (o : ℕ) → 3 ≤ length s → (outcome (read_header s o)).reply ≡ refused 11 → no_frame o (length_in s) ≡ true
eleven_told s o h e = go (no_frame o (length_in s)) refl
  where
    go : (b : Bool) → no_frame o (length_in s) ≡ b → b ≡ true
    go true q = refl
    go false q = let z : ◌≡◌ {A = Option ℕ} none (some 11) = sym (told_header s o h q) ∙ ap refused_by e in let y : ◌≡◌ {A = ℕ} 0 1 = cc in absurd (omega arith)

-- the ciphertext length of headers, and of their beginnings
two_of : (s : List ℕ) → length_in s ≡ get_or s 1 0 * 256 + get_or s 2 0
unfolding length_in number_at number number_after bytes_from
two_of s = omega arith

-- no frame where the offset is too great, or the length too small
frame_past : (o n m : ℕ) → 17 ≤ n → n ≤ 65535 → no_frame o n ≡ true → n ≤ m → no_frame o m ≡ true
unfolding no_frame least_length most_length next_offset
frame_past o n m low high e h = go (ltb most_offset (o + 3 + n)) refl (ltb m 17) (ltb 65535 m) e
  where
    go : (c : Bool) → ltb most_offset (o + 3 + n) ≡ c → (x y : Bool) → ltb n 17 || ltb 65535 n || c ≡ true → x || y || ltb most_offset (o + 3 + m) ≡ true
    go true q true y f = refl
    go true q false true f = refl
    go true q false false f = let k = ltb-true most_offset (o + 3 + n) q in lt-ltb most_offset (o + 3 + m) (omega arith)
    go false q x y f = absurd (false≢true ((sym (rw (le-ltb n 17 low, le-ltb 65535 n high))) ∙ f))

frame_short : (o n : ℕ) → n < 17 → no_frame o n ≡ true
unfolding no_frame least_length
frame_short o n h = rw (lt-ltb n 17 h)

-- the least length that may follow
least_one : (c : ℕ) → least_in (c ∷ []) ≡ 17
unfolding least_in least_length length_in number_at number number_after bytes_from
least_one c = refl

least_two : (c h : ℕ) → (h ≡ 0) → least_in (c ∷ h ∷ []) ≡ 17
unfolding least_in least_length
least_two c h e = let q : length_in (c ∷ h ∷ []) < 17 = omega (arith, two_of (c ∷ h ∷ [])) in rw (lt-ltb (length_in (c ∷ h ∷ [])) 17 q)

least_more : (c h : ℕ) → 1 ≤ h → least_in (c ∷ h ∷ []) ≡ h * 256
unfolding least_in least_length
least_more c h e =
    let t = two_of (c ∷ h ∷ []) in
    let q : 17 ≤ length_in (c ∷ h ∷ []) = omega arith in
    let k : length_in (c ∷ h ∷ []) ≡ h * 256 = omega arith in
    (rw (le-ltb (length_in (c ∷ h ∷ [])) 17 q)) ∙ k

least_three : (c h l : ℕ) → least_in (c ∷ h ∷ l ∷ []) ≡ h * 256 + l
unfolding least_in
least_three c h l = two_of (c ∷ h ∷ l ∷ [])

-- no header with these three bytes avoids it
by_three : (o c h l : ℕ) (q : List ℕ) → no_frame o (h * 256 + l) ≡ true → (outcome (read_header (c ∷ h ∷ l ∷ q) o)).reply ≡ refused 11
by_three o c h l q e = told_eleven (c ∷ h ∷ l ∷ q) o (omega arith) (ap (no_frame o) (two_of (c ∷ h ∷ l ∷ q)) ∙ e)

-- longer, or too short
by_least : (o n m : ℕ) → 17 ≤ n → n ≤ 65535 → no_frame o n ≡ true → (17 ≤ m → n ≤ m) → no_frame o m ≡ true
by_least o n m low high e f = elim (dec_lt m 17) [
  | yes h ↦ frame_short o m h
  | no h ↦ frame_past o n m low high e (f (omega arith))
]

forward : (o : ℕ) (p : List ℕ) → Bytes p → 1 ≤ length p → length p ≤ 3 → hopeless o p ≡ true → Eleven o p
unfolding hopeless Eleven
forward o [] b low high e q y k = absurd (omega arith)
forward o (c ∷ []) b low high e [] y k = absurd (omega arith)
forward o (c ∷ []) b low high e (h ∷ []) y k = absurd (omega arith)
forward o (c ∷ []) b low high e (h ∷ l ∷ q) y k = by_three o c h l q (by_least o 17 (h * 256 + l) (omega arith) (omega arith) (ap (no_frame o) (sym (least_one c)) ∙ e) (λ z. z))
forward o (c ∷ h ∷ []) b low high e [] y k = absurd (omega arith)
forward o (c ∷ h ∷ []) b low high e (l ∷ q) y k = by_three o c h l q (elim (dec_lt 0 h) [
  | yes z ↦ by_least o (h * 256) (h * 256 + l) (omega arith) (omega (arith, b.1.0)) (ap (no_frame o) (sym (least_more c h z)) ∙ e) (λ _. omega arith)
  | no z ↦ by_least o 17 (h * 256 + l) (omega arith) (omega arith) (ap (no_frame o) (sym (least_two c h (omega arith))) ∙ e) (λ x. x)
])
forward o (c ∷ h ∷ l ∷ []) b low high e q y k = by_three o c h l q (ap (no_frame o) (sym (least_three c h l)) ∙ e)
forward o (c ∷ h ∷ l ∷ x ∷ p) b low high e q y k = absurd (omega arith)

-- the witness is the least length
by_witness : (o c h l : ℕ) → (outcome (read_header (c ∷ h ∷ l ∷ []) o)).reply ≡ refused 11 → no_frame o (h * 256 + l) ≡ true
by_witness o c h l e = ap (no_frame o) (sym (two_of (c ∷ h ∷ l ∷ []))) ∙ eleven_told (c ∷ h ∷ l ∷ []) o (omega arith) e

backward : (o : ℕ) (p : List ℕ) → 1 ≤ length p → length p ≤ 3 → Eleven o p → hopeless o p ≡ true
unfolding hopeless Eleven
backward o [] low high f = absurd (omega arith)
backward o (c ∷ []) low high f = ap (no_frame o) (least_one c) ∙ by_witness o c 0 17 (f (0 ∷ 17 ∷ []) (omega arith, (omega arith, tt)) (omega arith))
backward o (c ∷ h ∷ []) low high f = elim (dec_lt 0 h) [
  | yes z ↦ let k : h * 256 ≡ h * 256 + 0 = omega arith in ap (no_frame o) (least_more c h z ∙ k) ∙ by_witness o c h 0 (f (0 ∷ []) (omega arith, tt) (omega arith))
  | no z ↦ let k : 17 ≡ h * 256 + 17 = omega arith in ap (no_frame o) (least_two c h (omega arith) ∙ k) ∙ by_witness o c h 17 (f (17 ∷ []) (omega arith, tt) (omega arith))
]
backward o (c ∷ h ∷ l ∷ []) low high f = ap (no_frame o) (least_three c h l) ∙ by_witness o c h l (f [] tt (omega arith))
backward o (c ∷ h ∷ l ∷ x ∷ p) low high f = absurd (omega arith)

-- a header is hopeless exactly when no bytes behind it avoid 11
pub hopeless_means : (o : ℕ) (p : List ℕ) → Bytes p → 1 ≤ length p → length p ≤ 3 → (hopeless o p ≡ true) ↔ Eleven o p
hopeless_means o p b low high = (forward o p b low high, backward o p low high)
