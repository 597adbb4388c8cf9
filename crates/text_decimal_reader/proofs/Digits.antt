-- The digits of a word, read from the first on, and one more digit. Assumes nothing.
use Rattle.std.proofs.Common.{◌≡◌, ℕ, ◌+◌, ◌-◌, ◌*◌, ◌<◌, ◌≤◌, List, [], ◌∷◌, Bool, true, false, ◌&&◌, length, get_or, refl, arith, eq-eqb, ne_eqb, le-ltb, Option, Some, None, SomeIff}
use Rattle.text_decimal.specs.Decimal.{fitting, with_digit, number_said}
use Rattle.text_decimal.specs.DecimalLaws.{Reading, with_over, with_more}

and_none : (b : Bool) → b && false ≡ false
and_none true = refl
and_none false = refl

-- a word that is not empty, of which the first is no 0 but in 0 itself
pub reading_word : (w : List ℕ) → 0 < length w → (1 < length w → get_or w 0 0 ≡ 48 → ⊥) → Reading w 0 0
unfolding number_said
reading_word [] h f = absurd (omega arith)
reading_word (c ∷ []) h f = record { small = omega arith; rest = simp (le-ltb 0 0 (omega arith), and_none) }
reading_word (c ∷ (d ∷ w)) h f = record { small = omega arith; rest = simp (ne_eqb c 48 (f (omega arith))) }

-- one more digit, where the sum may be too large
pub digit_added : (r : Option ℕ) (n c m d : ℕ) → 48 ≤ c → c ≤ 57 → m ≡ n * 10 → d ≡ c - 48 → SomeIff r (m + d < 18446744073709551616) (m + d) → r ≡ fitting (with_digit n c)
digit_added None n c m d h k e f s = with_over n c h k (grind (arith, s))
digit_added (Some v) n c m d h k e f s = with_more n c v h k (omega (arith, s.1)) (omega (arith, s.0, s.1))
