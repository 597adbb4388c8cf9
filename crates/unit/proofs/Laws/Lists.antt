-- Lists: one element cut out, and numbers that stand in a list or do not.
use Rattle.std.specs.Prelude.{◌≡◌, ◌≢◌, ◌⊎◌, length, take}
use Rattle.std.proofs.Math.Path.{refl, ap}
use Rattle.std.proofs.Common.{◌∙◌, arith}
use mathlib.Core.List.{List, [], ◌∷◌, ◌++◌, map}
use Prim.Native.Nat.{ℕ, zero, suc, ◌+◌, ◌-◌, ◌≤◌, ◌<◌}
use Rattle.std.proofs.Math.Seq.{take-append-le}
use Rattle.door.specs.Calls.{cut}
use Rattle.unit.specs.Laws.Lists.{NotIn}

module _ {X : Type 0} where
  pub length_cut : (j : ℕ) (l : List X) → j < length l → suc (length (cut j l)) ≡ length l
  unfolding cut
  length_cut j [] h = absurd (omega arith)
  length_cut zero (x ∷ l) h = refl
  length_cut (suc j) (x ∷ l) h = ap suc (length_cut j l (omega arith))

  -- a list closes up: the first n without the j-th
  pub take_cut : (j n : ℕ) (l : List X) (e : X) → j < suc n → suc n ≤ length l → take n (cut j l ++ e ∷ []) ≡ cut j (take (suc n) l)
  unfolding cut
  take_cut j n [] e h k = absurd (omega arith)
  take_cut zero n (x ∷ l) e h k = take-append-le n l (e ∷ []) (omega arith)
  take_cut (suc j) zero (x ∷ l) e h k = absurd (omega arith)
  take_cut (suc j) (suc n) (x ∷ l) e h k = ap (λ (r : List X). x ∷ r) (take_cut j n l e (omega arith) (omega arith))

module _ {X Y : Type 0} where
  pub map_cut : (f : X → Y) (j : ℕ) (l : List X) → map f (cut j l) ≡ cut j (map f l)
  unfolding cut
  map_cut f j [] = refl
  map_cut f zero (x ∷ l) = refl
  map_cut f (suc j) (x ∷ l) = ap (λ (r : List Y). f x ∷ r) (map_cut f j l)

  pub map_snoc : (f : X → Y) (l : List X) (x : X) → map f (l ++ x ∷ []) ≡ map f l ++ f x ∷ []
  map_snoc f [] x = refl
  map_snoc f (y ∷ l) x = ap (λ (r : List Y). f y ∷ r) (map_snoc f l x)

pub not_in_cut : (k j : ℕ) (is : List ℕ) → NotIn k is → NotIn k (cut j is)
unfolding cut
not_in_cut k j [] h = tt
not_in_cut k zero (i ∷ is) h = h.1
not_in_cut k (suc j) (i ∷ is) h = (h.0, not_in_cut k j is h.1)

pub not_in_snoc : (k i : ℕ) (is : List ℕ) → NotIn k is → k ≢ i → NotIn k (is ++ i ∷ [])
not_in_snoc k i [] h n = (n, tt)
not_in_snoc k i (x ∷ is) h n = (h.0, not_in_snoc k i is h.1 n)
