-- The first free row of words of marks: in the first word, or behind it. Assumes nothing.
use mathlib.Core.Path.{◌≡◌, refl, ap, ◌∙◌}
use mathlib.Core.Bool.{Bool, true, false, cond}
use mathlib.Core.List.{List, [], ◌∷◌, ◌++◌}
use Prim.Native.Nat.{ℕ, zero, suc, ◌+◌, ◌≤◌, ◌<◌}
use native.Mathlib.Numerals.{add-one}
use native.Mathlib.Omega.{arith}
use lib.Dec.{ltb}
use lib.ListN.{length, get_or, drop, drop_of_length-le}
use lib.Seq.{drop-cons}
use borrow.Author.Tests.{lt-ltb, le-ltb, ltb-true, ltb-false}
use Rattle.unit.specs.Numbers.{word_n}
use Rattle.unit.specs.Marks.{bits_of, marks_in}
use Rattle.unit.specs.Unit.{or_next, first_free}
use Rattle.unit.proofs.Laws.Marks.{length_bits}

append_step : (o f l m g : ℕ) → g ≡ cond (ltb f l) f (l + m) → or_next o g ≡ cond (ltb (or_next o f) (suc l)) (or_next o f) (suc l + m)
unfolding or_next
append_step zero f l m g e = rw (lt-ltb 0 (suc l) (omega arith)) refl
append_step (suc o) f l m g e = go (ltb f l) refl
  where
    go : (b : Bool) → ltb f l ≡ b → suc g ≡ cond (ltb (suc f) (suc l)) (suc f) (suc l + m)
    go true q = rw (lt-ltb (suc f) (suc l) (omega (arith, ltb-true f l q))) (omega (arith, rw q at e))
    go false q = rw (le-ltb (suc f) (suc l) (omega (arith, ltb-false f l q))) (omega (arith, rw q at e))

-- in the first list, or behind it
first_free_append : (xs ys : List ℕ) → first_free (xs ++ ys) ≡ cond (ltb (first_free xs) (length xs)) (first_free xs) (length xs + first_free ys)
unfolding first_free
first_free_append [] ys = omega arith
first_free_append (x ∷ xs) ys = append_step x (first_free xs) (length xs) (first_free ys) (first_free (xs ++ ys)) (first_free_append xs ys)

module _ (words : List ℕ) (i marked : ℕ) (h : i < length words) (e : marked ≡ first_free (bits_of word_n (get_or words i 0))) where
  here : marks_in (drop i words) ≡ bits_of word_n (get_or words i 0) ++ marks_in (drop (i + 1) words)
  unfolding marks_in
  here = rw (drop-cons words i 0 h, add-one)

  split : first_free (marks_in (drop i words)) ≡ cond (ltb marked word_n) marked (word_n + first_free (marks_in (drop (i + 1) words)))
  split =
      ap first_free here
      ∙ (first_free_append (bits_of word_n (get_or words i 0)) (marks_in (drop (i + 1) words))
      ∙ rw (length_bits word_n (get_or words i 0), ← e))

  -- the word has a free row
  pub free_in_word : marked < word_n → first_free (marks_in (drop i words)) ≡ marked
  free_in_word l = split ∙ rw (lt-ltb marked word_n l)

  -- the word is full
  pub word_full : word_n ≤ marked → first_free (marks_in (drop i words)) ≡ word_n + first_free (marks_in (drop (i + 1) words))
  word_full l = split ∙ rw (le-ltb marked word_n l)

-- no word is left
pub no_word : (words : List ℕ) (i : ℕ) → length words ≤ i → first_free (marks_in (drop i words)) ≡ 0
unfolding first_free marks_in
no_word words i h = rw (drop_of_length-le words h)
