-- One bit of a word: the word or 2 ^ k has the k-th bit set, and the word without 2 ^ k has it clear.
use mathlib.Core.Path.{◌≡◌, refl, sym, ap, ◌∙◌}
use mathlib.Core.Bool.{Bool, true, false}
use mathlib.Core.List.{List}
use Prim.Native.Nat.{ℕ, zero, suc, ◌+◌, ◌-◌, ◌*◌, ◌/◌, ◌%◌, ◌^◌, ◌≤◌, ◌<◌}
use native.Mathlib.Nat.{pow-suc}
use Rattle.std.proofs.Math.Nat.{mod-eq_of_lt}
use native.Mathlib.Omega.{arith}
use lib.Bits.{bit_and}
use lib.ListN.{length, get_or, set}
use lib.Seq.{set_out}
use Rattle.std.specs.Int.RustNames.{bit_or}
use Rattle.std.specs.Int.Bits.{or_zero_r}
use Rattle.std.proofs.lemmas.Nat.{or_block, and_block, and_mask, one_shl}
use Rattle.unit.specs.Numbers.{word_n}
use Rattle.unit.specs.Marks.{with_bit, with_mark, mark_for}

-- the lowest bit
or_low : (b : ℕ) → b < 2 → bit_or b 1 ≡ 1
or_low zero h = refl
or_low (suc zero) h = refl
or_low (suc (suc b)) h = absurd (omega arith)

or_none : (b : ℕ) → b < 2 → bit_or b 0 ≡ b
or_none zero h = refl
or_none (suc zero) h = refl
or_none (suc (suc b)) h = absurd (omega arith)

and_low : (b : ℕ) → b < 2 → bit_and b 1 ≡ b
and_low zero h = refl
and_low (suc zero) h = refl
and_low (suc (suc b)) h = absurd (omega arith)

and_none : (b : ℕ) → b < 2 → bit_and b 0 ≡ 0
and_none zero h = refl
and_none (suc zero) h = refl
and_none (suc (suc b)) h = absurd (omega arith)

halved : (w : ℕ) → w ≡ w / 2 * 2 ^ 1 + w % 2
halved w = omega arith

module _ (w m b : ℕ) (low : b < 2) where
  or_halved : bit_or w (m * 2 + b) ≡ bit_or (w / 2) m * 2 + bit_or (w % 2) b
  or_halved = ap (λ (x : ℕ). bit_or x (m * 2 + b)) (halved w) ∙ or_block 1 (w / 2) m (w % 2) b (omega arith) low

  and_halved : bit_and w (m * 2 + b) ≡ bit_and (w / 2) m * 2 + bit_and (w % 2) b
  and_halved = ap (λ (x : ℕ). bit_and x (m * 2 + b)) (halved w) ∙ and_block 1 (w / 2) m (w % 2) b (omega arith) low

bit_set : (w k : ℕ) → bit_or w (2 ^ k) ≡ with_bit w k 1
unfolding with_bit
bit_set w zero =
    let e : bit_or (w / 2) 0 ≡ w / 2 = or_zero_r (w / 2) in
    or_halved w 0 1 (omega arith) ∙ rw (e, or_low (w % 2) (omega arith)) refl
bit_set w (suc k) =
    let p : 2 ^ suc k ≡ 2 ^ k * 2 + 0 = omega (arith, pow-suc 2 k) in
    ap (bit_or w) p ∙ (or_halved w (2 ^ k) 0 (omega arith) ∙ rw (bit_set (w / 2) k, or_none (w % 2) (omega arith)) refl)

pow_positive : (n : ℕ) → 0 < 2 ^ n
pow_positive zero = omega arith
pow_positive (suc n) = omega (arith, pow-suc 2 n, pow_positive n)

-- a bit's value is less than the word's number of values
pow_less : (k n : ℕ) → k < n → 2 ^ k < 2 ^ n
pow_less k zero h = absurd (omega arith)
pow_less zero (suc n) h = omega (arith, pow-suc 2 n, pow_positive n)
pow_less (suc k) (suc n) h = omega (arith, pow-suc 2 n, pow-suc 2 k, pow_less k n (omega arith))

bit_clear : (n w k : ℕ) → w < 2 ^ n → k < n → bit_and w (2 ^ n - 1 - 2 ^ k) ≡ with_bit w k 0
unfolding with_bit
bit_clear zero w k h l = absurd (omega arith)
bit_clear (suc n) w zero h l =
    let p : 2 ^ suc n - 1 - 1 ≡ (2 ^ n - 1) * 2 + 0 = omega (arith, pow-suc 2 n) in
    let e : bit_and (w / 2) (2 ^ n - 1) ≡ w / 2 = and_mask (w / 2) n ∙ mod-eq_of_lt (omega (arith, pow-suc 2 n)) in
    ap (bit_and w) p ∙ (and_halved w (2 ^ n - 1) 0 (omega arith) ∙ rw (e, and_none (w % 2) (omega arith)) refl)
bit_clear (suc n) w (suc k) h l =
    let p : 2 ^ suc n - 1 - 2 ^ suc k ≡ (2 ^ n - 1 - 2 ^ k) * 2 + 1 = omega (arith, pow-suc 2 n, pow-suc 2 k, pow_less k n (omega arith)) in
    ap (bit_and w) p ∙ (and_halved w (2 ^ n - 1 - 2 ^ k) 1 (omega arith) ∙ rw (bit_clear n (w / 2) k (omega (arith, pow-suc 2 n)) (omega arith), and_low (w % 2) (omega arith)) refl)

-- the two ways of a mark in a word
module _ (w k : ℕ) (within : k < 32) (used : Bool) where
  place_is : 1 * 2 ^ k % 4294967296 ≡ 2 ^ k
  place_is = one_shl k 32 within

  pub marked : used ≡ true → bit_or w (1 * 2 ^ k % 4294967296) ≡ with_bit w k (mark_for used)
  unfolding mark_for
  marked e = rw e (ap (bit_or w) place_is ∙ bit_set w k)

  pub unmarked : used ≡ false → w < 2 ^ 32 → bit_and w (4294967295 - 1 * 2 ^ k % 4294967296) ≡ with_bit w k (mark_for used)
  unfolding mark_for
  unmarked e h = rw e (ap (λ (p : ℕ). bit_and w (4294967295 - p)) place_is ∙ bit_clear 32 w k h within)

-- past the last word, and in one
module _ (words : List ℕ) (row b : ℕ) where
  pub past_words : length words ≤ row / word_n → words ≡ with_mark words row b
  unfolding with_mark
  past_words h = sym (set_out words (row / word_n) _ h)

  pub in_word : (at k changed : ℕ) → at ≡ row / word_n → k ≡ row % word_n → changed ≡ with_bit (get_or words at 0) k b → set words at changed ≡ with_mark words row b
  unfolding with_mark
  in_word at k changed e f g = rw (g, f, e)
