-- A search of a list, from the first on.
use Rattle.std.proofs.Common.{◌≡◌, ℕ, ◌+◌, ◌<◌, ◌≤◌, List, ◌∷◌, true, false, length, get_or, drop, ap, sym, ◌∙◌, eq-eqb, ne_eqb}
use native.Mathlib.Numerals.{add-one}
use lib.ListN.{drop_of_length-le}
use lib.Seq.{drop-cons}
use Rattle.eno.specs.Option.{is_listed}

-- what stands at i, and the rest
cut_at : (l : List ℕ) (i : ℕ) → i < length l → drop i l ≡ get_or l i 0 ∷ drop (i + 1) l
cut_at l i h = rw (add-one, drop-cons l i 0)

-- a search for t that passed i elements
module _ (t : ℕ) (l : List ℕ) (i : ℕ) (passed : is_listed t l ≡ is_listed t (drop i l)) where
  pub listed_here : i < length l → get_or l i 0 ≡ t → true ≡ is_listed t l
  unfolding is_listed
  listed_here h e = sym (passed ∙ (rw (cut_at l i h, eq-eqb _ _ e)))

  pub listed_later : i < length l → (get_or l i 0 ≡ t → ⊥) → is_listed t l ≡ is_listed t (drop (i + 1) l)
  unfolding is_listed
  listed_later h e = passed ∙ (rw (cut_at l i h, ne_eqb _ _ e))

  pub listed_nowhere : length l ≤ i → false ≡ is_listed t l
  unfolding is_listed
  listed_nowhere h = sym (passed ∙ ap (is_listed t) (drop_of_length-le l {i = i} h))
