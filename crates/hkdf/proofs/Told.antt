-- What extract and expand give back. Assumes nothing.
use Prim.Native.Nat.{ℕ, ◌+◌, ◌-◌, ◌^◌, ◌≤◌, ◌<◌}
use mathlib.Core.Path.{◌≡◌, refl, sym, ◌∙◌, ap₂}
use mathlib.Core.List.{List}
use mathlib.Core.Bool.{Bool, true, false, ◌&&◌, ◌||◌, true≢false}
use native.Mathlib.Omega.{arith}
use borrow.Author.Tests.{lt-ltb, le-ltb, eq-eqb, ne_eqb, ltb-false}
use lib.Dec.{ltb}
use lib.ListN.{length}
use Rattle.wire.specs.Bytes.{pasted}
use Rattle.refusals.specs.Rows.{refusal}
use Rattle.std.specs.Prelude.{Result, Ok, Err}
use native.Mathlib.Decide.{dec_lt}
use Rattle.hash_layout.specs.declared.TooLong.{TooLong}
use Rattle.hash_layout.specs.Hkdf.{hkdf_extract, hkdf_expand}
use Rattle.hash_layout.proofs.Lengths.{length_expand}
use Rattle.hash_layout.specs.Outcome.{unless}
use Rattle.hash_layout.specs.Calls.{mac, extract, expand, longest, too_long, most_expanded, expand_too_long, expanded, outcome}
use Rattle.hash_layout.specs.Answers.{hash_told}
use Rattle.hkdf_interface.specs.declared.ExpandRefusal.TheVariants as w
use Rattle.hkdf_interface.specs.Answers.{extract_told, expand_told}
use Rattle.hkdf.specs.Expanding.{Fits}

-- extract is a MAC with the salt as its key
extract_is : (r : Result (List ℕ) TooLong) → extract_told r ≡ hash_told r
extract_is (Ok d) = refl
extract_is (Err e) = refl

pub extract_told_lem : (salt ikm : List ℕ) (r : Result (List ℕ) TooLong) → hash_told r ≡ outcome (mac salt ikm) → extract_told r ≡ outcome (extract salt ikm)
unfolding outcome hkdf_extract
extract_told_lem salt ikm r e = extract_is r ∙ e

and_no : (a : Bool) → a && false ≡ false
and_no true = refl
and_no false = refl

or_no : (a : Bool) → a || false ≡ a
or_no true = refl
or_no false = refl

or_yes : (a : Bool) → a || true ≡ true
or_yes true = refl
or_yes false = refl

module _ (info size : ℕ) where
  pub long_over : 8160 < size → true ≡ expand_too_long info size
  unfolding expand_too_long most_expanded
  long_over h = rw (lt-ltb 8160 size h)

  module _ (most : size ≤ 8160) where
    pub more_is : 32 < size → ltb (2 ^ 61 - 98) info ≡ expand_too_long info size
    unfolding expand_too_long most_expanded too_long longest
    more_is h = elim (dec_lt (2 ^ 61 - 98) info) [
      | yes l ↦ rw (le-ltb 8160 size most, lt-ltb 32 size h, lt-ltb (2 ^ 61 - 98) info l, lt-ltb (2 ^ 61 - 1) (97 + info) (omega arith)) (sym (or_yes (ltb 0 size && ltb (2 ^ 61 - 1) (65 + info))))
      | no l ↦ rw (le-ltb 8160 size most, le-ltb (2 ^ 61 - 98) info (omega arith), le-ltb (2 ^ 61 - 1) (97 + info) (omega arith), le-ltb (2 ^ 61 - 1) (65 + info) (omega arith), and_no (ltb 0 size), and_no (ltb 32 size))
    ]

    pub first_is : size ≤ 32 → 0 < size → ltb (2 ^ 61 - 66) info ≡ expand_too_long info size
    unfolding expand_too_long most_expanded too_long longest
    first_is u h = elim (dec_lt (2 ^ 61 - 66) info) [
      | yes l ↦ rw (le-ltb 8160 size most, lt-ltb 0 size h, lt-ltb (2 ^ 61 - 66) info l, lt-ltb (2 ^ 61 - 1) (65 + info) (omega arith))
      | no l ↦ rw (le-ltb 8160 size most, le-ltb 32 size u, le-ltb (2 ^ 61 - 66) info (omega arith), le-ltb (2 ^ 61 - 1) (65 + info) (omega arith), and_no (ltb 0 size))
    ]

    pub fits_none : size ≤ 0 → false ≡ expand_too_long info size
    unfolding expand_too_long most_expanded too_long longest
    fits_none h = rw (le-ltb 8160 size most, le-ltb 0 size h, le-ltb 32 size (omega arith))

-- what the tests leave
test_false : (a b : Bool) → a || b ≡ false → (a ≡ false) × (b ≡ false)
test_false true b e = absurd (true≢false e)
test_false false b e = (refl, e)

pub fits_of : (prk info : List ℕ) (size : ℕ) (out : List ℕ) → length prk ≡ 32 → size ≤ length out → expand_too_long (length info) size ≡ false → Fits prk info size out
unfolding expand_too_long most_expanded too_long longest
fits_of prk info size out e r f =
    let a = test_false (ltb 8160 size) (ltb 0 size && ltb (2 ^ 61 - 1) (65 + length info) || ltb 32 size && ltb (2 ^ 61 - 1) (97 + length info)) f in
    let b = test_false (ltb 0 size && ltb (2 ^ 61 - 1) (65 + length info)) (ltb 32 size && ltb (2 ^ 61 - 1) (97 + length info)) a.1 in
    record {
      key = e;
      room = r;
      most = ltb-false 8160 size a.0;
      first = λ p. let z = ltb-false (2 ^ 61 - 1) (65 + length info) (sym (rw (lt-ltb 0 size p)) ∙ b.0) in omega arith;
      more = λ p. let z = ltb-false (2 ^ 61 - 1) (97 + length info) (sym (rw (lt-ltb 32 size p)) ∙ b.1) in omega arith;
    }

module _ (key info : List ℕ) (size : ℕ) (s : List ℕ) where
  pub expand_unfit : (length key ≡ 32 → ⊥) → expand_told (Err w.Unfit) s ≡ outcome (expand key info size s)
  unfolding outcome unless refusal
  expand_unfit e = rw (ne_eqb (length key) 32 e)

  pub expand_no_room : length key ≡ 32 → length s < size → expand_told (Err w.NoRoom) s ≡ outcome (expand key info size s)
  unfolding outcome unless refusal
  expand_no_room e l = rw (eq-eqb (length key) 32 e, lt-ltb (length s) size l)

  pub expand_long : length key ≡ 32 → size ≤ length s → expand_too_long (length info) size ≡ true → expand_told (Err w.TooLong) s ≡ outcome (expand key info size s)
  unfolding outcome unless refusal
  expand_long e l f = rw (eq-eqb (length key) 32 e, le-ltb (length s) size l, f)

  pub expand_written : (o : List ℕ) → length key ≡ 32 → size ≤ length s → expand_too_long (length info) size ≡ false → o ≡ pasted s 0 (hkdf_expand key info size)
      → expand_told (Ok size) o ≡ outcome (expand key info size s)
  unfolding outcome unless refusal expanded
  expand_written o e l f eo =
      rw (eq-eqb (length key) 32 e, le-ltb (length s) size l, f)
      (ap₂ (λ (n : ℕ) (d : List ℕ). expand_told (Ok n) d) (sym (length_expand key info size)) eo)
