-- The digits of a number, written from the last on: what is still to be written, with what stands behind it, is the whole. Assumes nothing.
use Rattle.std.proofs.Common.{◌≡◌, ℕ, zero, suc, ◌+◌, ◌*◌, ◌/◌, ◌%◌, ◌^◌, ◌≤◌, ◌<◌, List, [], ◌∷◌, ◌++◌, length, drop, set, sym, ◌∙◌, ap, pow-suc, add-one, append_assoc, append-nil, drop_of_length-le, arith}
use Rattle.std.proofs.lemmas.List.{drop-set}
use Rattle.text_decimal.specs.Decimal.{digits_in, decimal_text}
use Rattle.text_decimal.specs.DecimalTrips.{digits_one, digits_more}

-- of n, all digits behind place `at` stand in s, and `left` is what they leave
pub record Behind (n at left : ℕ) (s : List ℕ) : Type 0 where
  pub inside : at ≤ 19
  pub small : left < 10 ^ (at + 1)
  pub whole : digits_in (at + 1) left ++ drop (at + 1) s ≡ decimal_text n

-- a number of two digits or more has a place before its last
pub place_before : (at left : ℕ) → left < 10 ^ (at + 1) → 9 < left → 0 < at
place_before zero left h k = absurd (omega arith)
place_before (suc at) left h k = omega arith

pub behind_none : (n : ℕ) (s : List ℕ) → n < 10 ^ 20 → length s ≡ 20 → Behind n 19 n s
unfolding decimal_text
behind_none n s h e =
    record { inside = omega arith; small = h; whole = ap (λ l. digits_in 20 n ++ l) (drop_of_length-le s {i = 20} (omega arith)) ∙ append-nil (digits_in 20 n) }

pub behind_more : (n at before left : ℕ) (s : List ℕ) → before + 1 ≡ at → at < length s → 9 < left → Behind n at left s → Behind n before (left / 10) (set s at (48 + left % 10))
behind_more n at before left s e h k b =
    let p : 10 ^ (at + 1) ≡ 10 ^ at * 10 = rw add-one (pow-suc 10 at) in
    let v : left < 10 ^ at * 10 = rw p at b.small in
    let w : digits_in (at + 1) left ≡ digits_in at (left / 10) ++ ((48 + left % 10) ∷ []) = rw add-one (digits_more at left (omega arith)) in
    let r : digits_in at (left / 10) ++ drop at (set s at (48 + left % 10)) ≡ decimal_text n =
    ap (λ l. digits_in at (left / 10) ++ l) (drop-set s at (48 + left % 10) h)
    ∙ (sym (append_assoc (digits_in at (left / 10)) ((48 + left % 10) ∷ []) (drop (at + 1) s)) ∙ (ap (λ l. l ++ drop (at + 1) s) (sym w) ∙ b.whole)) in
    record {
      inside = omega (arith, b.inside);
      small = rw e (omega arith);
      whole = rw e r;
    }

pub behind_all : (n at left : ℕ) (s : List ℕ) → at < length s → left ≤ 9 → Behind n at left s → drop at (set s at (48 + left)) ≡ decimal_text n
behind_all n at left s h k b =
    let w : digits_in (at + 1) left ≡ (48 + left) ∷ [] = rw add-one (digits_one at left (omega arith)) in
    drop-set s at (48 + left) h ∙ (ap (λ l. l ++ drop (at + 1) s) (sym w) ∙ b.whole)
