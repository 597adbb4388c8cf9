-- Hex words and bytes are each other's: what is written is read back, and what is read was written so. Assumes nothing.
use Rattle.std.specs.Prelude.{ℕ, zero, suc, ◌+◌, ◌*◌, ◌-◌, ◌/◌, ◌%◌, ◌≤◌, ◌<◌, ◌≡◌, refl, List, [], ◌∷◌, ◌++◌, Bool, true, false, cond, ◌&&◌, leb, ltb, eqb, length}
use Rattle.std.proofs.Common.{sym, ◌∙◌, ap, ap₂, subst, mod-lt, div-add-mod', arith, eq-eqb, lt-ltb, le-ltb, ltb-true, ltb-false, leb-true, leb-false, eqb-true}
use Rattle.std.specs.Prelude.{Option, None, Some}
use Rattle.std.proofs.lemmas.Bool.{false≢true}
use Rattle.std.proofs.Math.Arith.{digits_div, digits_mod}
use Rattle.wire.specs.Bytes.{Bytes, same_bytes}
use Rattle.wire.specs.ByteLaws.{same_eq}
use Rattle.text_hex.specs.Hex.{hex_value, hex_digit, all_hex, pairs, dash, is_pairs, bytes_said, hex_digits, hex_text}
use Rattle.text_hex.specs.HexLaws.{value_decimal, value_letter, digit_low, digit_high, length_pairs, length_digits, text_digits, all_at}

and_left : (a b : Bool) → a && b ≡ true → a ≡ true
and_left true b e = refl
and_left false b e = e

and_right : (a b : Bool) → a && b ≡ true → b ≡ true
and_right true b e = e
and_right false b e = absurd (false≢true e)

pairs_parts : (w : List ℕ) → is_pairs w ≡ true → (0 < length w) × (length w % 2 ≡ 0) × (all_hex w ≡ true)
unfolding is_pairs
pairs_parts w e =
    let r = and_right (ltb 0 (length w)) (eqb (length w % 2) 0 && all_hex w) e in (
      ltb-true 0 (length w) (and_left (ltb 0 (length w)) (eqb (length w % 2) 0 && all_hex w) e),
      eqb-true (length w % 2) 0 (and_left (eqb (length w % 2) 0) (all_hex w) r),
      and_right (eqb (length w % 2) 0) (all_hex w) r,
    )

-- a value below 16 and its digit
pub value_digit : (n : ℕ) → n < 16 → hex_value (hex_digit n) ≡ n
value_digit n h = go (ltb n 10) refl
  where
    go : (t : Bool) → ltb n 10 ≡ t → hex_value (hex_digit n) ≡ n
    go true e =
        let k = ltb-true n 10 e in
        let z : 48 + n - 48 ≡ n = omega arith in
        ap hex_value (sym (digit_low n k)) ∙ (sym (value_decimal (48 + n) (omega arith) (omega arith)) ∙ z)
    go false e =
        let k = ltb-false n 10 e in
        let z : 87 + n - 87 ≡ n = omega arith in
        ap hex_value (sym (digit_high n k)) ∙ (sym (value_letter (87 + n) (omega arith) (omega arith)) ∙ z)

value_none : (c : ℕ) → (leb 48 c && leb c 57) ≡ false → (leb 97 c && leb c 102) ≡ false → hex_value c ≡ 16
unfolding hex_value
value_none c e f = simp (e, f)

pub digit_value : (c : ℕ) → hex_value c ≤ 15 → hex_digit (hex_value c) ≡ c
digit_value c h = go (leb 48 c && leb c 57) (leb 97 c && leb c 102) refl refl
  where
    go : (s t : Bool) → (leb 48 c && leb c 57) ≡ s → (leb 97 c && leb c 102) ≡ t → hex_digit (hex_value c) ≡ c
    go true t e f =
        let p = leb-true 48 c (and_left (leb 48 c) (leb c 57) e) in
        let q = leb-true c 57 (and_right (leb 48 c) (leb c 57) e) in
        let z : 48 + (c - 48) ≡ c = omega arith in
        ap hex_digit (sym (value_decimal c p q)) ∙ (sym (digit_low (c - 48) (omega arith)) ∙ z)
    go false true e f =
        let p = leb-true 97 c (and_left (leb 97 c) (leb c 102) f) in
        let q = leb-true c 102 (and_right (leb 97 c) (leb c 102) f) in
        let z : 87 + (c - 87) ≡ c = omega arith in
        ap hex_digit (sym (value_letter c p q)) ∙ (sym (digit_high (c - 87) (omega arith)) ∙ z)
    go false false e f = let z = value_none c e f in absurd (omega arith)

-- the digits of bytes are hex digits, and say those bytes
pub digits_hex : (l : List ℕ) → Bytes l → all_hex (hex_digits l) ≡ true
unfolding hex_digits all_hex
digits_hex [] b = refl
digits_hex (x ∷ l) b =
    let p : x / 16 < 16 = omega (arith, b.0) in
    let q : x % 16 < 16 = omega arith in
    simp (value_digit (x / 16) p, value_digit (x % 16) q, lt-ltb (x / 16) 16 p, lt-ltb (x % 16) 16 q) (digits_hex l b.1)

pub pairs_digits : (l : List ℕ) → Bytes l → pairs (hex_digits l) ≡ l
unfolding hex_digits pairs
pairs_digits [] b = refl
pairs_digits (x ∷ l) b =
    let p : x / 16 < 16 = omega (arith, b.0) in
    let q : x % 16 < 16 = omega arith in
    let z : x / 16 * 16 + x % 16 ≡ x = omega arith in
    ap₂ (λ n r. n ∷ r) (ap₂ (λ m n. m * 16 + n) (value_digit (x / 16) p) (value_digit (x % 16) q) ∙ z) (pairs_digits l b.1)

pub digits_pairs : (w : List ℕ) → length w % 2 ≡ 0 → all_hex w ≡ true → hex_digits (pairs w) ≡ w
unfolding hex_digits pairs all_hex
digits_pairs [] e h = refl
digits_pairs (a ∷ []) e h = absurd (omega arith)
digits_pairs (a ∷ (b ∷ w)) e h =
    let p = all_at (a ∷ (b ∷ w)) 0 h (omega arith) in
    let q = all_at (a ∷ (b ∷ w)) 1 h (omega arith) in
    ap₂ (λ m r. m ∷ r) (ap hex_digit (digits_div (hex_value a) {m = 16} (omega arith)) ∙ digit_value a p)
    (ap₂ (λ m r. m ∷ r) (ap hex_digit (digits_mod (hex_value a) {m = 16} (omega arith)) ∙ digit_value b q) (digits_pairs w (omega arith) (tail h)))
  where
    tail : all_hex (a ∷ (b ∷ w)) ≡ true → all_hex w ≡ true
    tail e = and_right (ltb (hex_value b) 16) (all_hex w) (and_right (ltb (hex_value a) 16) (all_hex (b ∷ w)) e)

and_false : (b : Bool) → b && false ≡ false
and_false true = refl
and_false false = refl

said_pairs : (w : List ℕ) → same_bytes w dash ≡ false → 0 < length w → length w % 2 ≡ 0 → all_hex w ≡ true → bytes_said w ≡ Some (pairs w)
unfolding bytes_said is_pairs
said_pairs w o h k e = simp (o, lt-ltb 0 (length w) h, eq-eqb (length w % 2) 0 k, e)

not_dash : (a b : ℕ) (w : List ℕ) → same_bytes (a ∷ (b ∷ w)) dash ≡ false
unfolding same_bytes
not_dash a b w = and_false (eqb a 0x2d)

-- bytes written are read back
pub bytes_read_back : (l : List ℕ) → Bytes l → bytes_said (hex_text l) ≡ Some l
unfolding bytes_said hex_text hex_digits same_bytes
bytes_read_back [] b = refl
bytes_read_back (x ∷ l) b =
    said_pairs (hex_digits (x ∷ l)) (not_dash (hex_digit (x / 16)) (hex_digit (x % 16)) (hex_digits l)) (omega (arith, n)) (omega (arith, n)) (digits_hex (x ∷ l) b)
    ∙ ap Some (pairs_digits (x ∷ l) b)
  where
    n : length (hex_digits (x ∷ l)) ≡ 2 * suc (length l)
    n = length_digits (x ∷ l)

-- a word that says bytes is those bytes written
pub bytes_as_written : (w l : List ℕ) → bytes_said w ≡ Some l → w ≡ hex_text l
unfolding bytes_said hex_text
bytes_as_written w l e = go (same_bytes w dash) refl e
  where
    paired : (t : Bool) → is_pairs w ≡ t → cond t (Some (pairs w)) None ≡ Some l → w ≡ hex_text l
    paired true p q =
        let z : pairs w ≡ l = cc in
        let h = pairs_parts w p in
        sym (digits_pairs w h.1 h.2) ∙ (sym (text_digits (pairs w) (omega (arith, h.0, h.1, length_pairs w))) ∙ ap hex_text z)
    paired false p q = let z : ◌≡◌ {A = ℕ} 0 1 = cc in absurd (omega arith)

    go : (t : Bool) → same_bytes w dash ≡ t → cond t (Some []) (cond (is_pairs w) (Some (pairs w)) None) ≡ Some l → w ≡ hex_text l
    go true p q = let z : [] ≡ l = cc in same_eq w dash p ∙ ap hex_text z
    go false p q = paired (is_pairs w) refl q
