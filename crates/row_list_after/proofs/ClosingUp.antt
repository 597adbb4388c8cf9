-- A list of row numbers closes up where one is cut out.
use mathlib.Core.Path.{◌≡◌, refl, sym, ap, ◌∙◌}
use mathlib.Core.List.{List, [], ◌∷◌, ◌++◌}
use Prim.Native.Nat.{ℕ, zero, suc, ◌+◌, ◌≤◌, ◌<◌}
use native.Mathlib.Omega.{arith}
use native.Mathlib.Numerals.{add-one}
use lib.ListN.{length, get_or, take, set, length-append, length-set, get_or-eq_default}
use lib.Seq.{take-suc, take-suc-set, take_all}
use Rattle.door.specs.Calls.{cut}
use Rattle.unit.proofs.Laws.Lists.{length_cut}

abbrev pub closed : ℕ → List ℕ → List ℕ
closed j l = cut j l ++ 0 ∷ []

closed_at : (j : ℕ) (l : List ℕ) (k : ℕ) → j ≤ k → j < length l → get_or (closed j l) k 0 ≡ get_or l (suc k) 0
unfolding cut
closed_at j [] k h i = absurd (omega arith)
closed_at zero (x ∷ l) k h i = behind l k
  where
    behind : (l : List ℕ) (k : ℕ) → get_or (l ++ 0 ∷ []) k 0 ≡ get_or l k 0
    behind [] zero = refl
    behind [] (suc k) = refl
    behind (y ∷ l) zero = refl
    behind (y ∷ l) (suc k) = behind l k
closed_at (suc j) (x ∷ l) zero h i = absurd (omega arith)
closed_at (suc j) (x ∷ l) (suc k) h i = closed_at j l k (omega arith) (omega arith)

pub closed_take : (j : ℕ) (l : List ℕ) → j < length l → take j l ≡ take j (closed j l)
unfolding cut
closed_take j [] h = absurd (omega arith)
closed_take zero (x ∷ l) h = refl
closed_take (suc j) (x ∷ l) h = ap (λ (r : List ℕ). x ∷ r) (closed_take j l (omega arith))

closed_length : (j : ℕ) (l : List ℕ) → j < length l → length (closed j l) ≡ length l
closed_length j l h = length-append (cut j l) (0 ∷ []) ∙ (add-one (length (cut j l)) ∙ length_cut j l h)

module _ (j : ℕ) (numbers left : List ℕ) (k : ℕ) (within : j < length numbers) (same : length left ≡ length numbers) (done : take k left ≡ take k (closed j numbers)) where
  closed_step : (v : ℕ) → k < length numbers → v ≡ get_or (closed j numbers) k 0 → take (k + 1) (set left k v) ≡ take (k + 1) (closed j numbers)
  closed_step v h e = rw (add-one, take-suc-set left k v (omega arith), take-suc (closed j numbers) k 0 (omega (arith, closed_length j numbers within)), done, e)

  -- one number moves up
  pub closed_more : j ≤ k → k + 1 < length numbers → take (k + 1) (set left k (get_or numbers (k + 1) 0)) ≡ take (k + 1) (closed j numbers)
  closed_more m h = closed_step (get_or numbers (k + 1) 0) (omega arith) (ap (λ (i : ℕ). get_or numbers i 0) (add-one k) ∙ sym (closed_at j numbers k m within))

  -- the last place is zero
  pub closed_all : j ≤ k → k + 1 ≡ length numbers → set left k 0 ≡ closed j numbers
  closed_all m h =
      let z : 0 ≡ get_or (closed j numbers) k 0 = sym (closed_at j numbers k m within ∙ get_or-eq_default numbers 0 {n = suc k} (omega arith)) in
      sym (take_all (k + 1) (set left k 0) (rw length-set (omega arith)))
      ∙ (closed_step 0 (omega arith) z ∙ take_all (k + 1) (closed j numbers) (omega (arith, closed_length j numbers within)))
