-- Laws of decimal words. Assumes nothing.
use Prim.Native.Nat.{ℕ, zero, suc, ◌+◌, ◌*◌, ◌-◌, ◌/◌, ◌%◌, ◌^◌, ◌≤◌, ◌<◌}
use Rattle.std.specs.Prelude.{◌≡◌, List, [], ◌∷◌, ◌++◌, Bool, true, false, cond, ◌&&◌, leb, ltb, eqb, length, get_or, drop}
use Rattle.std.proofs.Math.Path.{refl}
use Rattle.std.proofs.Common.{sym, ◌∙◌, ap, ap₂, subst, pow-suc, mod-lt, div-add-mod', mod-eq_of_lt, add-one, arith, drop_of_length-le, drop-cons}
use Rattle.std.specs.Prelude.{Option, None, Some}
use Rattle.std.proofs.Math.Nat.{pow-zero}
use borrow.Author.Tests.{eq-eqb, ne_eqb, eqb-true, eqb-false, le-leb, lt-leb, leb-true, leb-false, lt-ltb, le-ltb, ltb-true, ltb-false}
use Rattle.text_decimal.specs.Decimal.{numbers, is_digit, fitting, with_digit, digits_after, number_said}

-- a digit, and a byte that is none
pub digit_yes : (c : ℕ) → 48 ≤ c → c ≤ 57 → is_digit c ≡ true
unfolding is_digit
digit_yes c h k = simp (le-leb _ _ h, le-leb _ _ k)

pub digit_low : (c : ℕ) → c < 48 → is_digit c ≡ false
unfolding is_digit
digit_low c h = simp (lt-leb _ _ h)

and_false : (b : Bool) → b && false ≡ false
and_false true = refl
and_false false = refl

pub digit_high : (c : ℕ) → 57 < c → is_digit c ≡ false
unfolding is_digit
digit_high c h = simp (lt-leb _ _ h) (and_false (leb 48 c))

-- one more digit: it is none, the number is too large, or it fits
module _ (n c : ℕ) where
  pub with_low : c < 48 → None ≡ fitting (with_digit n c)
  unfolding with_digit fitting
  with_low h = simp (digit_low c h)

  pub with_high : 57 < c → None ≡ fitting (with_digit n c)
  unfolding with_digit fitting
  with_high h = simp (digit_high c h)

  pub with_over : 48 ≤ c → c ≤ 57 → numbers ≤ n * 10 + (c - 48) → None ≡ fitting (with_digit n c)
  unfolding with_digit fitting
  with_over h k o = simp (digit_yes c h k, le-ltb _ _ o)

  pub with_more : (v : ℕ) → 48 ≤ c → c ≤ 57 → v ≡ n * 10 + (c - 48) → v < numbers → Some v ≡ fitting (with_digit n c)
  unfolding with_digit fitting
  with_more v h k e o = rw e (simp (digit_yes c h k, lt-ltb (n * 10 + (c - 48)) numbers (omega arith)))

-- more digits make no smaller number
pub after_grows : (w : List ℕ) (n m : ℕ) → digits_after n w ≡ Some m → n ≤ m
unfolding digits_after
after_grows [] n m e = let z : n ≡ m = cc in omega arith
after_grows (c ∷ w) n m e = go (is_digit c) (after_grows w (n * 10 + (c - 48)) m) e
  where
    go : (t : Bool) → (digits_after (n * 10 + (c - 48)) w ≡ Some m → n * 10 + (c - 48) ≤ m) → cond t (digits_after (n * 10 + (c - 48)) w) None ≡ Some m → n ≤ m
    go true f q = let h = f q in omega arith
    go false f q = let z : ◌≡◌ {A = ℕ} 0 1 = cc in absurd (omega arith)

pub after_over : (w : List ℕ) (n : ℕ) → numbers ≤ n → None ≡ fitting (digits_after n w)
unfolding fitting
after_over w n h = go (digits_after n w) refl
  where
    go : (o : Option ℕ) → digits_after n w ≡ o → None ≡ fitting o
    go None e = refl
    go (Some m) e = let k = after_grows w n m e in simp (le-ltb m numbers (omega arith))

-- the loop: the digits before place i of a word make n
pub record Reading (w : List ℕ) (i n : ℕ) : Type 0 where
  pub small : n < numbers
  pub rest : fitting (digits_after n (drop i w)) ≡ number_said w

pub said_none : (w : List ℕ) → length w ≡ 0 → None ≡ number_said w
unfolding number_said
said_none [] h = refl
said_none (c ∷ w) h = absurd (omega arith)

pub said_leading : (w : List ℕ) → get_or w 0 0 ≡ 48 → 1 < length w → None ≡ number_said w
unfolding number_said
said_leading [] e h = absurd (omega arith)
said_leading (c ∷ w) e h = let k : 0 < length w = omega arith in simp (eq-eqb c 48 e, lt-ltb 0 (length w) k)

pub said_zero : (w : List ℕ) → get_or w 0 0 ≡ 48 → 0 < length w → length w ≤ 1 → Some 0 ≡ number_said w
unfolding number_said digits_after is_digit fitting
said_zero [] e h k = absurd (omega arith)
said_zero (c ∷ []) e h k = rw e
said_zero (c ∷ (d ∷ w)) e h k = absurd (omega arith)

pub reading_start : (w : List ℕ) → 0 < length w → (get_or w 0 0 ≡ 48 → ⊥) → Reading w 0 0
unfolding number_said
reading_start [] h e = absurd (omega arith)
reading_start (c ∷ w) h e = record { small = omega arith; rest = simp (ne_eqb c 48 e) }

module _ (w : List ℕ) (i n : ℕ) (r : Reading w i n) where
  next_is : i < length w → drop i w ≡ get_or w i 0 ∷ drop (i + 1) w
  next_is h = rw add-one (drop-cons w i 0 h)

  pub reading_more : (v : ℕ) → i < length w → fitting (with_digit n (get_or w i 0)) ≡ Some v → Reading w (i + 1) v
  unfolding with_digit digits_after fitting
  reading_more v h e = go (is_digit (get_or w i 0)) refl
    where
      m : ℕ
      m = n * 10 + (get_or w i 0 - 48)

      sized : (t : Bool) → ltb m numbers ≡ t → cond t (Some m) None ≡ Some v → (v ≡ m) × (v < numbers)
      sized true q p = let z : v ≡ m = cc in let k = ltb-true m numbers q in (z, omega arith)
      sized false q p = let z : ◌≡◌ {A = ℕ} 0 1 = cc in absurd (omega arith)

      go : (t : Bool) → is_digit (get_or w i 0) ≡ t → Reading w (i + 1) v
      go true q =
          let s = sized (ltb m numbers) refl (simp q at e) in
          record {
            small = s.1;
            rest =
                ap (λ k. fitting (digits_after k (drop (i + 1) w))) s.0
                ∙ (sym (ap (λ l. fitting (digits_after n l)) (next_is h) ∙ simp q) ∙ r.rest);
          }
      go false q = let z : None ≡ Some v = simp q at e in let z : ◌≡◌ {A = ℕ} 0 1 = cc in absurd (omega arith)

  pub reading_wrong : i < length w → fitting (with_digit n (get_or w i 0)) ≡ None → None ≡ number_said w
  unfolding with_digit digits_after fitting
  reading_wrong h e = go (is_digit (get_or w i 0)) refl ∙ r.rest
    where
      m : ℕ
      m = n * 10 + (get_or w i 0 - 48)

      sized : (t : Bool) → ltb m numbers ≡ t → cond t (Some m) None ≡ None → numbers ≤ m
      sized true q p = let z : ◌≡◌ {A = ℕ} 0 1 = cc in absurd (omega arith)
      sized false q p = ltb-false m numbers q

      go : (t : Bool) → is_digit (get_or w i 0) ≡ t → None ≡ fitting (digits_after n (drop i w))
      go true q =
          after_over (drop (i + 1) w) m (sized (ltb m numbers) refl (simp q at e))
          ∙ sym (ap (λ l. fitting (digits_after n l)) (next_is h) ∙ simp q)
      go false q = sym (ap (λ l. fitting (digits_after n l)) (next_is h) ∙ simp q)

pub reading_over : (w : List ℕ) (i n : ℕ) → Reading w i n → length w ≤ i → Some n ≡ number_said w
unfolding digits_after fitting
reading_over w i n r h = sym (ap (λ l. fitting (digits_after n l)) (drop_of_length-le w {i = i} h) ∙ simp (lt-ltb n numbers r.small)) ∙ r.rest
