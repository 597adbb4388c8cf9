-- Laws of places and words. Assumes nothing.
use Rattle.std.specs.Prelude.{ℕ, ◌+◌, ◌-◌, ◌≤◌, ◌<◌, ◌≡◌, List, length, get_or, take, drop}
use Rattle.std.proofs.Math.Path.{sym}
use Rattle.std.proofs.Common.{◌∙◌, ap, arith, eq-eqb, ne_eqb, drop_of_length-le, drop-cons}
use Rattle.std.proofs.Math.Nat.{add-zero}
use Rattle.std.proofs.Math.Numerals.{add-one}
use Rattle.text_places.specs.Word.{before, place_of, word_end, word_at, space}

-- the search of c from place i on: it ends here, goes on, or there is no more
module _ (c : ℕ) (s : List ℕ) (i : ℕ) where
  pub place_end : length s ≤ i → i ≡ place_of c s i
  unfolding place_of before
  place_end h = sym (ap (λ l. i + before c l) (drop_of_length-le s {i = i} h) ∙ add-zero i)

  pub place_here : i < length s → get_or s i 0 ≡ c → i ≡ place_of c s i
  unfolding place_of before
  place_here h e = rw (drop-cons s i 0 h) (simp (eq-eqb _ _ e) (sym (add-zero i)))

  pub place_later : i < length s → (get_or s i 0 ≡ c → ⊥) → place_of c s i ≡ place_of c s (i + 1)
  unfolding place_of before
  place_later h e = rw (drop-cons s i 0 h, add-one i) (simp (ne_eqb _ _ e) (omega arith))

-- the word at a place is what stands from there to its end
pub word_part : (s : List ℕ) (i : ℕ) → word_at s i ≡ take (word_end s i - i) (drop i s)
unfolding word_at word_end place_of
word_part s i = let e : before space (drop i s) ≡ i + before space (drop i s) - i = omega arith in ap (λ n. take n (drop i s)) e
