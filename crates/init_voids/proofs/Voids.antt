-- Laws of looking for a cipher 0000, i passed. Assumes nothing.
use Prim.Native.Nat.{ℕ, suc, ◌+◌, ◌-◌, ◌≤◌, ◌<◌}
use mathlib.Core.Path.{◌≡◌, refl, sym, ◌∙◌, ap}
use mathlib.Core.List.{List}
use mathlib.Core.Bool.{true, false, ◌||◌}
use native.Mathlib.Omega.{arith}
use borrow.Author.Tests.{eq-eqb, ne_eqb}
use lib.Dec.{eqb}
use lib.ListN.{length}
use Rattle.wire.specs.Number.{number_at}
use Rattle.init_layout.specs.Reading.{void_from}
use Rattle.init_layout.proofs.VoidLaws.{void_at_lem, void_past}

module _ (p : List ℕ) (at count : ℕ) where
  pub record Looked (i next : ℕ) : Type 0 where
    pub left : ℕ
    pub sum : i + left ≡ count
    pub later : void_from count p at ≡ void_from left p next

  pub looked_start : Looked 0 at
  looked_start = record { left = count; sum = omega arith; later = refl }

  module _ (i next : ℕ) (so_far : Looked i next) where
    pub looked_all : count ≤ i → false ≡ void_from count p at
    unfolding void_from
    looked_all h = let e : so_far.left ≡ 0 = omega (arith, so_far.sum) in sym (so_far.later ∙ ap (λ k. void_from k p next) e)

    pub looked_past : length p ≤ next + 1 → false ≡ void_from count p at
    looked_past h = sym (so_far.later ∙ void_past so_far.left next p h)

    module _ (in_List : i < count) (there : next + 1 < length p) (c : ℕ) (is-cipher : c ≡ number_at 2 p next) where
      one_more : so_far.left ≡ suc (so_far.left - 1)
      one_more = omega (arith, so_far.sum)

      this_first : void_from count p at ≡ eqb c 0 || void_from (so_far.left - 1) p (next + 2)
      this_first =
          so_far.later
          ∙ (ap (λ k. void_from k p next) one_more
          ∙ (void_at_lem (so_far.left - 1) next p there ∙ ap (λ x. eqb x 0 || void_from (so_far.left - 1) p (next + 2)) (sym is-cipher)))

      pub looked_here : c ≡ 0 → true ≡ void_from count p at
      looked_here e = sym (this_first ∙ ap (λ b. b || void_from (so_far.left - 1) p (next + 2)) (eq-eqb c 0 e))

      pub looked_next : (c ≡ 0 → ⊥) → Looked (i + 1) (next + 2)
      looked_next e =
          record {
            left = so_far.left - 1;
            sum = omega (arith, so_far.sum);
            later = this_first ∙ ap (λ b. b || void_from (so_far.left - 1) p (next + 2)) (ne_eqb c 0 e);
          }
