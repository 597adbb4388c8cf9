-- Laws of hex words. Assumes nothing.
use Prim.Native.Nat.{ℕ, zero, suc, ◌+◌, ◌*◌, ◌-◌, ◌/◌, ◌%◌, ◌≤◌, ◌<◌}
use Rattle.std.specs.Prelude.{◌≡◌, Bool, cond, ◌&&◌, leb, ltb, eqb, length, get_or, drop}
use Rattle.std.proofs.Math.Path.{refl, sym, ap, ap₂}
use Rattle.std.proofs.Common.{◌∙◌, subst, add-one, arith, take-append-drop, drop_of_length-le, drop-cons, length-take-le}
use mathlib.Core.List.{List, [], ◌∷◌, ◌++◌, append_assoc}
use Rattle.std.specs.Prelude.{Option, None, Some}
use Rattle.std.proofs.Math.Bool.{true, false}
use Rattle.std.proofs.lemmas.Bool.{false≢true}
use borrow.Author.Tests.{eq-eqb, ne_eqb, le-leb, lt-leb, lt-ltb, le-ltb, ltb-true, ltb-false}
use Rattle.std.proofs.Math.ListN.{take}
use Rattle.std.proofs.Math.Seq.{take-suc, take-length}
use Rattle.wire.specs.Bytes.{same_bytes, pasted}
use Rattle.wire.specs.ByteLaws.{pasted_fits, pasted_twice}
use Rattle.text_hex.specs.Hex.{hex_value, hex_digit, pair_said, all_hex, pairs, dash, is_pairs, bytes_said, at_most, count_of, holding, hex_digits, hex_text}
use Rattle.text_hex.specs.Answers.{Took}

and_false : (b : Bool) → b && false ≡ false
and_false true = refl
and_false false = refl

and_left : (a b : Bool) → a && b ≡ true → a ≡ true
and_left true b e = refl
and_left false b e = e

and_right : (a b : Bool) → a && b ≡ true → b ≡ true
and_right true b e = e
and_right false b e = absurd (false≢true e)

-- the value of a digit
module _ (c : ℕ) where
  pub value_low : c < 48 → 16 ≡ hex_value c
  unfolding hex_value
  value_low h = simp (lt-leb 48 c h, lt-leb 97 c (omega arith))

  pub value_decimal : 48 ≤ c → c ≤ 57 → c - 48 ≡ hex_value c
  unfolding hex_value
  value_decimal h k = simp (le-leb 48 c h, le-leb c 57 k)

  pub value_between : 57 < c → c < 97 → 16 ≡ hex_value c
  unfolding hex_value
  value_between h k = simp (le-leb 48 c (omega arith), lt-leb c 57 h, lt-leb 97 c k)

  pub value_letter : 97 ≤ c → c ≤ 102 → c - 87 ≡ hex_value c
  unfolding hex_value
  value_letter h k = simp (le-leb 48 c (omega arith), lt-leb c 57 (omega arith), le-leb 97 c h, le-leb c 102 k)

  pub value_high : 102 < c → 16 ≡ hex_value c
  unfolding hex_value
  value_high h = simp (le-leb 48 c (omega arith), lt-leb c 57 (omega arith), le-leb 97 c (omega arith), lt-leb c 102 h)

pub digit_low : (n : ℕ) → n < 10 → 48 + n ≡ hex_digit n
unfolding hex_digit
digit_low n h = simp (lt-ltb n 10 h)

pub digit_high : (n : ℕ) → 10 ≤ n → 87 + n ≡ hex_digit n
unfolding hex_digit
digit_high n h = simp (le-ltb n 10 h)

-- two digits
module _ (a b : ℕ) where
  pub pair_high : 15 < hex_value a → None ≡ pair_said a b
  unfolding pair_said
  pair_high h = simp (le-ltb (hex_value a) 16 (omega arith))

  pub pair_low : hex_value a ≤ 15 → 15 < hex_value b → None ≡ pair_said a b
  unfolding pair_said
  pair_low h k = simp (lt-ltb (hex_value a) 16 (omega arith), le-ltb (hex_value b) 16 (omega arith))

  pub pair_both : hex_value a ≤ 15 → hex_value b ≤ 15 → (x : ℕ) → x ≡ hex_value a * 16 + hex_value b → Some x ≡ pair_said a b
  unfolding pair_said
  pair_both h k x e = rw e (simp (lt-ltb (hex_value a) 16 (omega arith), lt-ltb (hex_value b) 16 (omega arith)))

-- the loop over the digits of a word
module _ (w : List ℕ) (i : ℕ) where
  next_is : i < length w → drop i w ≡ get_or w i 0 ∷ drop (i + 1) w
  next_is h = rw add-one (drop-cons w i 0 h)

  pub all_more : i < length w → hex_value (get_or w i 0) ≤ 15 → all_hex (drop i w) ≡ all_hex (drop (i + 1) w)
  unfolding all_hex
  all_more h k = ap all_hex (next_is h) ∙ simp (lt-ltb (hex_value (get_or w i 0)) 16 (omega arith))

  pub all_wrong : i < length w → 15 < hex_value (get_or w i 0) → false ≡ all_hex (drop i w)
  unfolding all_hex
  all_wrong h k = sym (ap all_hex (next_is h) ∙ simp (le-ltb (hex_value (get_or w i 0)) 16 (omega arith)))

  pub all_over : length w ≤ i → true ≡ all_hex (drop i w)
  unfolding all_hex
  all_over h = sym (ap all_hex (drop_of_length-le w {i = i} h))

pub all_at : (w : List ℕ) (i : ℕ) → all_hex w ≡ true → i < length w → hex_value (get_or w i 0) ≤ 15
unfolding all_hex
all_at [] i e h = absurd (omega arith)
all_at (c ∷ w) zero e h = let k = ltb-true (hex_value c) 16 (and_left (ltb (hex_value c) 16) (all_hex w) e) in omega arith
all_at (c ∷ w) (suc i) e h = all_at w i (and_right (ltb (hex_value c) 16) (all_hex w) e) (omega arith)

-- the bytes of pairs: how many, and each
pub length_pairs : (w : List ℕ) → length (pairs w) ≡ length w / 2
unfolding pairs
length_pairs [] = refl
length_pairs (a ∷ []) = refl
length_pairs (a ∷ (b ∷ w)) = let h = length_pairs w in omega arith

pub pairs_at : (w : List ℕ) (i : ℕ) → i < length (pairs w) → get_or (pairs w) i 0 ≡ hex_value (get_or w (2 * i) 0) * 16 + hex_value (get_or w (2 * i + 1) 0)
unfolding pairs
pairs_at [] i h = absurd (omega arith)
pairs_at (a ∷ []) i h = absurd (omega arith)
pairs_at (a ∷ (b ∷ w)) zero h = refl
pairs_at (a ∷ (b ∷ w)) (suc i) h =
    let p : 2 * suc i ≡ suc (suc (2 * i)) = omega arith in
    let q : 2 * suc i + 1 ≡ suc (suc (2 * i + 1)) = omega arith in
    pairs_at w i (omega arith)
    ∙ ap₂ (λ m n. hex_value (get_or (a ∷ (b ∷ w)) m 0) * 16 + hex_value (get_or (a ∷ (b ∷ w)) n 0)) (sym p) (sym q)

-- what a word says: no bytes, none, or the bytes of its pairs
module _ (w : List ℕ) (n : ℕ) where
  pub says_dash : same_bytes w dash ≡ true → at_most n (bytes_said w) ≡ Some []
  unfolding bytes_said at_most
  says_dash e = simp (e, le-leb 0 n (omega arith))

  module _ (other : same_bytes w dash ≡ false) where
    pub says_empty : length w ≡ 0 → at_most n (bytes_said w) ≡ None
    unfolding bytes_said at_most is_pairs
    says_empty h = simp (other, le-ltb 0 (length w) (omega arith))

    pub says_odd : 0 < length w → (length w % 2 ≡ 0 → ⊥) → at_most n (bytes_said w) ≡ None
    unfolding bytes_said at_most is_pairs
    says_odd h k = simp (other, lt-ltb 0 (length w) h, ne_eqb (length w % 2) 0 k)

    module _ (some? : 0 < length w) (even : length w % 2 ≡ 0) where
      pub says_wrong : all_hex w ≡ false → at_most n (bytes_said w) ≡ None
      unfolding bytes_said at_most is_pairs
      says_wrong e = simp (other, lt-ltb 0 (length w) some?, eq-eqb (length w % 2) 0 even, e)

      pub says_pairs : all_hex w ≡ true → length w / 2 ≤ n → at_most n (bytes_said w) ≡ Some (pairs w)
      unfolding bytes_said at_most is_pairs
      says_pairs e h = simp (other, lt-ltb 0 (length w) some?, eq-eqb (length w % 2) 0 even, e, le-leb (length (pairs w)) n (omega (arith, length_pairs w)))

      pub says_more : n < length w / 2 → at_most n (bytes_said w) ≡ None
      unfolding bytes_said at_most is_pairs
      says_more h = go (all_hex w) refl
        where
          go : (t : Bool) → all_hex w ≡ t → at_most n (bytes_said w) ≡ None
          go true e = simp (other, lt-ltb 0 (length w) some?, eq-eqb (length w % 2) 0 even, e, lt-leb (length (pairs w)) n (omega (arith, length_pairs w)))
          go false e = says_wrong e

pub pasted_nothing : (s : List ℕ) (i : ℕ) → i ≤ length s → s ≡ pasted s i []
pasted_nothing s i h =
    let k : i + 0 ≡ i = omega arith in
    sym (pasted_fits s i [] (omega arith) ∙ (ap (λ n. take i s ++ [] ++ drop n s) k ∙ (append_assoc (take i s) [] (drop i s) ∙ take-append-drop i s)))

module _ (w s₀ : List ℕ) where
  pub took_none : at_most (length s₀) (bytes_said w) ≡ None → Took w s₀ s₀ None
  unfolding count_of holding
  took_none e = record { count = sym (ap count_of e); held = sym (ap (holding s₀) e) }

  pub took_dash : same_bytes w dash ≡ true → Took w s₀ s₀ (Some 0)
  unfolding count_of holding
  took_dash h =
      let e = says_dash w (length s₀) h in
      record { count = sym (ap count_of e); held = pasted_nothing s₀ 0 (omega arith) ∙ sym (ap (holding s₀) e) }

  pub took_pairs : at_most (length s₀) (bytes_said w) ≡ Some (pairs w) → (s : List ℕ) → s ≡ pasted s₀ 0 (pairs w) → Took w s₀ s (Some (length w / 2))
  unfolding count_of holding
  took_pairs e s h = record { count = ap Some (sym (length_pairs w)) ∙ sym (ap count_of e); held = h ∙ sym (ap (holding s₀) e) }

-- the digits of bytes: how many, and those of one byte more
pub length_digits : (l : List ℕ) → length (hex_digits l) ≡ 2 * length l
unfolding hex_digits
length_digits [] = refl
length_digits (b ∷ l) = let h = length_digits l in omega arith

pub digits_append : (l m : List ℕ) → hex_digits (l ++ m) ≡ hex_digits l ++ hex_digits m
unfolding hex_digits
digits_append [] m = refl
digits_append (b ∷ l) m = ap (λ r. hex_digit (b / 16) ∷ (hex_digit (b % 16) ∷ r)) (digits_append l m)

pub text_digits : (l : List ℕ) → 0 < length l → hex_text l ≡ hex_digits l
unfolding hex_text
text_digits [] h = absurd (omega arith)
text_digits (b ∷ l) h = refl

pub text_dash : (l : List ℕ) → length l ≡ 0 → dash ≡ hex_text l
unfolding hex_text
text_dash [] h = refl
text_dash (b ∷ l) h = absurd (omega arith)

-- the loop that writes: the digits of the first i bytes stand at `at`
module _ (s₀ : List ℕ) (at : ℕ) (l : List ℕ) where
  pub written_more : (s : List ℕ) (i e : ℕ) → i < length l → at + 2 * length l ≤ length s₀ → e ≡ at + 2 * i → s ≡ pasted s₀ at (hex_digits (take i l))
      → pasted s e (hex_digit (get_or l i 0 / 16) ∷ (hex_digit (get_or l i 0 % 16) ∷ [])) ≡ pasted s₀ at (hex_digits (take (i + 1) l))
  unfolding hex_digits
  written_more s i e h room p q =
      ap₂ (λ t k. pasted t k v) q (p ∙ ap (λ n. at + n) (sym long))
      ∙ (pasted_twice s₀ u v at (omega (arith, long))
      ∙ ap (pasted s₀ at) (sym (ap hex_digits (ap (λ n. take n l) (add-one i) ∙ take-suc l i 0 h) ∙ (digits_append (take i l) (get_or l i 0 ∷ []) ∙ last))))
    where
      u : List ℕ
      u = hex_digits (take i l)

      v : List ℕ
      v = hex_digit (get_or l i 0 / 16) ∷ (hex_digit (get_or l i 0 % 16) ∷ [])

      long : length u ≡ 2 * i
      long = length_digits (take i l) ∙ ap (λ n. 2 * n) (length-take-le i l (omega arith))

      last : hex_digits (take i l) ++ hex_digits (get_or l i 0 ∷ []) ≡ u ++ v
      last = refl
