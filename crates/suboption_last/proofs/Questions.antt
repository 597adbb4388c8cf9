-- The last of a list. Assumes nothing.
use Prim.Native.Nat.{ℕ, ◌-◌, ◌≤◌, ◌<◌}
use mathlib.Core.Path.{◌≡◌, sym, ◌∙◌, ap}
use native.Mathlib.Omega.{arith}
use borrow.Author.Tests.{eq-eqb, ne_eqb}
use lib.ListN.{get_or}
use Rattle.suboption_list.specs.List.{most_items, filler, count_of, last_item}
use Rattle.suboption_list.proofs.Laws.{count_within, count_above}
use Rattle.suboption_list.specs.declared.SuboptionList.{SuboptionList}

-- the last of a list
module _ (l : SuboptionList) where
  pub last_none : l.count ≡ 0 → filler ≡ last_item l
  unfolding last_item
  last_none e = simp (eq-eqb _ _ e)

  pub last_of_many : most_items < l.count → get_or l.items 37 filler ≡ last_item l
  unfolding last_item
  last_of_many h =
      let z : l.count ≡ 0 → ⊥ = λ e. omega arith in
      let n : count_of l.count - 1 ≡ 37 = let e = count_above l.count h in omega arith in
      ap (λ k. get_or l.items k filler) (sym n) ∙ simp (ne_eqb _ _ z)

  pub last_there : (l.count ≡ 0 → ⊥) → l.count ≤ most_items → (k : ℕ) → k ≡ l.count - 1 → get_or l.items k filler ≡ last_item l
  unfolding last_item
  last_there z h k e =
      let n : k ≡ count_of l.count - 1 = let q = count_within l.count h in omega arith in
      ap (λ k. get_or l.items k filler) n ∙ simp (ne_eqb _ _ z)
