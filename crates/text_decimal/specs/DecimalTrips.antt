-- Decimal words and numbers are each other's: what is written is read back, and what is read was written so. Assumes nothing.
use Rattle.std.specs.Prelude.{ℕ, zero, suc, ◌+◌, ◌*◌, ◌-◌, ◌/◌, ◌%◌, ◌^◌, ◌≤◌, ◌<◌, ◌≡◌, refl, List, [], ◌∷◌, ◌++◌, Bool, true, false, cond, ◌&&◌, leb, ltb, eqb, length, get_or}
use Rattle.std.proofs.Common.{sym, ◌∙◌, ap, ap₂, subst, append-nil, pow-suc, arith, eqb-true, lt-ltb, le-ltb, ltb-true, ltb-false, leb-true, length-append}
use Rattle.std.specs.Prelude.{Option, None, Some}
use Rattle.std.proofs.lemmas.Bool.{false≢true, eqb-false}
use Rattle.std.proofs.Math.Seq.{append_snoc}
use Rattle.text_decimal.specs.Decimal.{numbers, is_digit, fitting, digits_after, number_said, digits_in, decimal_text}
use Rattle.text_decimal.specs.DecimalLaws.{digit_yes, after_grows, reading_start}

-- the digits of a number: one, or those of its tens and one more
pub digits_one : (f n : ℕ) → n < 10 → digits_in (suc f) n ≡ (48 + n) ∷ []
unfolding digits_in
digits_one f n h = simp (lt-ltb n 10 h)

pub digits_more : (f n : ℕ) → 10 ≤ n → digits_in (suc f) n ≡ digits_in f (n / 10) ++ ((48 + n % 10) ∷ [])
unfolding digits_in
digits_more f n h = simp (le-ltb n 10 h)

pub digits_snoc : (f n d : ℕ) → 0 < n → d < 10 → digits_in (suc f) (n * 10 + d) ≡ digits_in f n ++ ((48 + d) ∷ [])
digits_snoc f n d h k =
    let p : (n * 10 + d) / 10 ≡ n = omega arith in
    let q : (n * 10 + d) % 10 ≡ d = omega arith in
    digits_more f (n * 10 + d) (omega arith) ∙ ap₂ (λ a b. digits_in f a ++ ((48 + b) ∷ [])) p q

-- more room for digits changes nothing
pub digits_room : (f n : ℕ) → n < 10 ^ suc f → digits_in (suc (suc f)) n ≡ digits_in (suc f) n
digits_room zero n h = let k : n < 10 = h in digits_one 1 n k ∙ sym (digits_one 0 n k)
digits_room (suc f) n h = go (λ q. digits_room f (n / 10) q) (ltb n 10) refl
  where
    go : (n / 10 < 10 ^ suc f → digits_in (suc (suc f)) (n / 10) ≡ digits_in (suc f) (n / 10)) → (t : Bool) → ltb n 10 ≡ t → digits_in (suc (suc (suc f))) n ≡ digits_in (suc (suc f)) n
    go same true e = let k = ltb-true n 10 e in digits_one (suc (suc f)) n k ∙ sym (digits_one (suc f) n k)
    go same false e =
        let k = ltb-false n 10 e in
        let z : n < 10 ^ suc f * 10 = subst (λ m. n < m) (pow-suc 10 (suc f)) h in
        digits_more (suc (suc f)) n k
        ∙ (ap (λ l. l ++ ((48 + n % 10) ∷ [])) (same (omega arith))
        ∙ sym (digits_more (suc f) n k))

-- one digit more behind a word
pub after_snoc : (u : List ℕ) (a m c : ℕ) → digits_after a u ≡ Some m → 48 ≤ c → c ≤ 57 → digits_after a (u ++ (c ∷ [])) ≡ Some (m * 10 + (c - 48))
unfolding digits_after
after_snoc [] a m c e h k = let z : a ≡ m = cc in simp (digit_yes c h k) (ap (λ x. Some (x * 10 + (c - 48))) z)
after_snoc (x ∷ u) a m c e h k = go (is_digit x) (λ q. after_snoc u (a * 10 + (x - 48)) m c q h k) e
  where
    go : (t : Bool) → (digits_after (a * 10 + (x - 48)) u ≡ Some m → digits_after (a * 10 + (x - 48)) (u ++ (c ∷ [])) ≡ Some (m * 10 + (c - 48)))
        → cond t (digits_after (a * 10 + (x - 48)) u) None ≡ Some m → cond t (digits_after (a * 10 + (x - 48)) (u ++ (c ∷ []))) None ≡ Some (m * 10 + (c - 48))
    go true f q = f q
    go false f q = let z : ◌≡◌ {A = ℕ} 0 1 = cc in absurd (omega arith)

-- the digits of a number say it
pub after_digits : (f n : ℕ) → n < 10 ^ f → digits_after 0 (digits_in f n) ≡ Some n
unfolding digits_after digits_in
after_digits zero n h = let z : 0 ≡ n = omega arith in ap Some z
after_digits (suc f) n h = go (λ q. after_digits f (n / 10) q) (ltb n 10) refl
  where
    go : (n / 10 < 10 ^ f → digits_after 0 (digits_in f (n / 10)) ≡ Some (n / 10)) → (t : Bool) → ltb n 10 ≡ t → digits_after 0 (digits_in (suc f) n) ≡ Some n
    go same true e =
        let k = ltb-true n 10 e in
        let z : 0 * 10 + (48 + n - 48) ≡ n = omega arith in
        ap (digits_after 0) (digits_one f n k) ∙ simp (digit_yes (48 + n) (omega arith) (omega arith)) (ap Some z)
    go same false e =
        let k = ltb-false n 10 e in
        let a : n < 10 ^ f * 10 = subst (λ m. n < m) (pow-suc 10 f) h in
        let z : n / 10 * 10 + (48 + n % 10 - 48) ≡ n = omega arith in
        ap (digits_after 0) (digits_more f n k)
        ∙ (after_snoc (digits_in f (n / 10)) 0 (n / 10) (48 + n % 10) (same (omega arith)) (omega arith) (omega arith) ∙ ap Some z)

head_append : (u v : List ℕ) → 0 < length u → get_or (u ++ v) 0 0 ≡ get_or u 0 0
head_append [] v h = absurd (omega arith)
head_append (x ∷ u) v h = refl

-- they begin with no 0, but for 0 itself
pub digits_lead : (f n : ℕ) → 0 < n → n < 10 ^ f → (0 < length (digits_in f n)) × (48 < get_or (digits_in f n) 0 0)
digits_lead zero n h k = absurd (omega arith)
digits_lead (suc f) n h k = go (λ p q. digits_lead f (n / 10) p q) (ltb n 10) refl
  where
    go : (0 < n / 10 → n / 10 < 10 ^ f → (0 < length (digits_in f (n / 10))) × (48 < get_or (digits_in f (n / 10)) 0 0)) → (t : Bool) → ltb n 10 ≡ t
        → (0 < length (digits_in (suc f) n)) × (48 < get_or (digits_in (suc f) n) 0 0)
    go lead true e =
        let o = digits_one f n (ltb-true n 10 e) in
        rw o (omega arith, omega arith)
    go lead false e =
        let b = ltb-false n 10 e in
        let a : n < 10 ^ f * 10 = subst (λ m. n < m) (pow-suc 10 f) k in
        let r = lead (omega arith) (omega arith) in
        let o = digits_more f n b in
        let w = head_append (digits_in f (n / 10)) ((48 + n % 10) ∷ []) r.0 in
        rw o (omega (arith, length-append (digits_in f (n / 10)) ((48 + n % 10) ∷ [])), omega (arith, w, r.1))

-- a number written is read back
pub number_read_back : (n : ℕ) → n < numbers → number_said (decimal_text n) ≡ Some n
unfolding decimal_text number_said digits_in digits_after is_digit fitting
number_read_back zero h = refl
number_read_back (suc m) h =
    let k : suc m < 100000000000000000000 = omega arith in
    let l = digits_lead 20 (suc m) (omega arith) k in
    sym (reading_start (digits_in 20 (suc m)) l.0 (λ e. omega (arith, l.1))).rest
    ∙ (ap fitting (after_digits 20 (suc m) k) ∙ simp (lt-ltb (suc m) numbers h))

and_left : (a b : Bool) → a && b ≡ true → a ≡ true
and_left true b e = refl
and_left false b e = e

and_right : (a b : Bool) → a && b ≡ true → b ≡ true
and_right true b e = e
and_right false b e = absurd (false≢true e)

-- a digit is one of ten
pub digit_range : (c : ℕ) → is_digit c ≡ true → (48 ≤ c) × (c ≤ 57)
unfolding is_digit
digit_range c e = (leb-true 48 c (and_left (leb 48 c) (leb c 57) e), leb-true c 57 (and_right (leb 48 c) (leb c 57) e))

-- digits behind those of a number
pub after_said : (w : List ℕ) (a n : ℕ) → 0 < a → digits_after a w ≡ Some n → n < 10 ^ 20 → digits_in 20 a ++ w ≡ digits_in 20 n
unfolding digits_after
after_said [] a n p e h = let z : a ≡ n = cc in append-nil (digits_in 20 a) ∙ ap (digits_in 20) z
after_said (c ∷ w) a n p e h = go (is_digit c) refl (λ q r. after_said w (a * 10 + (c - 48)) n q r h) e
  where
    go : (t : Bool) → is_digit c ≡ t → (0 < a * 10 + (c - 48) → digits_after (a * 10 + (c - 48)) w ≡ Some n → digits_in 20 (a * 10 + (c - 48)) ++ w ≡ digits_in 20 n)
        → cond t (digits_after (a * 10 + (c - 48)) w) None ≡ Some n → digits_in 20 a ++ (c ∷ w) ≡ digits_in 20 n
    go true d same q =
        let r = digit_range c d in
        let g = after_grows w (a * 10 + (c - 48)) n q in
        let x : n < 100000000000000000000 = h in
        let y : a < 10000000000000000000 = omega arith in
        let z : 48 + (c - 48) ≡ c = omega arith in
        sym (append_snoc (digits_in 20 a) c w)
        ∙ (ap (λ l. l ++ w) (ap₂ (λ l b. l ++ (b ∷ [])) (digits_room 18 a y) (sym z) ∙ sym (digits_snoc 19 a (c - 48) p (omega arith)))
        ∙ same (omega arith) q)
    go false d same q = let z : ◌≡◌ {A = ℕ} 0 1 = cc in absurd (omega arith)

fits_said : (o : Option ℕ) (n : ℕ) → fitting o ≡ Some n → (o ≡ Some n) × (n < numbers)
unfolding fitting
fits_said None n e = let z : ◌≡◌ {A = ℕ} 0 1 = cc in absurd (omega arith)
fits_said (Some m) n e = go (ltb m numbers) refl e
  where
    go : (t : Bool) → ltb m numbers ≡ t → cond t (Some m) None ≡ Some n → (Some m ≡ Some n) × (n < numbers)
    go true q p = let z : m ≡ n = cc in let k = ltb-true m numbers q in (p, omega arith)
    go false q p = let z : ◌≡◌ {A = ℕ} 0 1 = cc in absurd (omega arith)

-- a word that says a number is that number written
pub number_as_written : (w : List ℕ) (n : ℕ) → number_said w ≡ Some n → w ≡ decimal_text n
unfolding number_said decimal_text digits_after
number_as_written [] n e = let z : ◌≡◌ {A = ℕ} 0 1 = cc in absurd (omega arith)
number_as_written (c ∷ w) n e = go (eqb c 48 && ltb 0 (length w)) refl e
  where
    said : (t : Bool) → is_digit c ≡ t → (eqb c 48 && ltb 0 (length w)) ≡ false → cond t (digits_after (0 * 10 + (c - 48)) w) None ≡ Some n → n < numbers → c ∷ w ≡ digits_in 20 n
    said false d u q h = let z : ◌≡◌ {A = ℕ} 0 1 = cc in absurd (omega arith)
    said true d u q h = zero_or (eqb c 48) refl
      where
        r : (48 ≤ c) × (c ≤ 57)
        r = digit_range c d

        one : digits_in 20 (c - 48) ≡ c ∷ []
        one = let z : 48 + (c - 48) ≡ c = omega (arith, r) in digits_one 19 (c - 48) (omega (arith, r)) ∙ ap (λ x. x ∷ []) z

        alone : (v : List ℕ) → length v ≤ 0 → digits_after (0 * 10 + (c - 48)) v ≡ Some n → c ≡ 48 → c ∷ v ≡ digits_in 20 n
        alone [] k p z = let x : 0 * 10 + (c - 48) ≡ n = cc in let y : c - 48 ≡ n = omega arith in sym one ∙ ap (digits_in 20) y
        alone (x ∷ v) k p z = absurd (omega arith)

        zero_or : (t : Bool) → eqb c 48 ≡ t → c ∷ w ≡ digits_in 20 n
        zero_or true z = alone w (ltb-false 0 (length w) (simp z at u)) q (eqb-true c 48 z)
        zero_or false z =
            let x : c ≡ 48 → ⊥ = eqb-false c 48 z in
            let p : 0 < c - 48 = omega (arith, r, x) in
            let k : n < 100000000000000000000 = omega arith in
            let y : c - 48 ≡ 0 * 10 + (c - 48) = omega arith in
            ap (λ l. l ++ w) (sym one) ∙ after_said w (c - 48) n p (ap (λ m. digits_after m w) y ∙ q) k

    go : (t : Bool) → (eqb c 48 && ltb 0 (length w)) ≡ t → cond t None (fitting (digits_after 0 (c ∷ w))) ≡ Some n → c ∷ w ≡ digits_in 20 n
    go true u q = let z : ◌≡◌ {A = ℕ} 0 1 = cc in absurd (omega arith)
    go false u q = let f = fits_said (digits_after 0 (c ∷ w)) n q in said (is_digit c) refl u f.0 f.1
