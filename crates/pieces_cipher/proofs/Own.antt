-- Laws of a cipher among those that A's own Init1 listed, and of the cipher of Init2. Assumes nothing.
use Prim.Native.Nat.{ℕ, suc, ◌+◌, ◌*◌, ◌-◌, ◌≤◌, ◌<◌}
use mathlib.Core.Path.{◌≡◌, refl, sym, ◌∙◌, ap}
use mathlib.Core.List.{List}
use mathlib.Core.Bool.{Bool, true, false, cond, ◌||◌}
use mathlib.Core.Option.{Option, none, some}
use native.Mathlib.Omega.{arith}
use borrow.Author.Tests.{lt-ltb, le-ltb, eq-eqb, ne_eqb}
use lib.Dec.{eqb}
use Rattle.wire.specs.Number.{number_at}
use Rattle.eno.specs.Option.{is_listed}
use Rattle.init_layout.specs.Layout.{init1}
use Rattle.init_layout.specs.Reading.{count_at, ciphers_at, first_that, is_enabled, in_init1}
use Rattle.init_layout.specs.declared.Enabled.{Enabled}
use Rattle.pieces_layout.specs.Reader.{own_from, enabled_in}
use Rattle.pieces_cipher.specs.Choosing.{own_count, chosen_in}

-- looked ciphers are others, and whether the cipher is listed hangs on those left
module _ (g : List ℕ) (count c : ℕ) where
  pub record Looked (looked : ℕ) : Type 0 where
    pub left : ℕ
    pub sum : looked + left ≡ count
    pub later : is_listed c (ciphers_at count g 4096) ≡ is_listed c (ciphers_at left g (4096 + 2 * looked))

  pub looked_start : Looked 0
  looked_start = record { left = count; sum = omega arith; later = refl }

  module _ (looked : ℕ) (so_far : Looked looked) where
    pub looked_all : count ≤ looked → false ≡ is_listed c (ciphers_at count g 4096)
    unfolding ciphers_at is_listed
    looked_all h =
        let e : so_far.left ≡ 0 = omega (arith, so_far.sum) in
        sym (so_far.later ∙ ap (λ k. is_listed c (ciphers_at k g (4096 + 2 * looked))) e)

    module _ (in_List : looked < count) (x : ℕ) (is-next : x ≡ number_at 2 g (4096 + 2 * looked)) where
      one_more : is_listed c (ciphers_at count g 4096) ≡ (eqb x c || is_listed c (ciphers_at (so_far.left - 1) g (4096 + 2 * looked + 2)))
      unfolding ciphers_at is_listed
      one_more =
          let e : so_far.left ≡ suc (so_far.left - 1) = omega (arith, so_far.sum) in
          so_far.later
          ∙ (ap (λ k. is_listed c (ciphers_at k g (4096 + 2 * looked))) e
          ∙ ap (λ y. eqb y c || is_listed c (ciphers_at (so_far.left - 1) g (4096 + 2 * looked + 2))) (sym is-next))

      pub looked_here : x ≡ c → true ≡ is_listed c (ciphers_at count g 4096)
      looked_here e = sym (one_more ∙ ap (λ b. b || is_listed c (ciphers_at (so_far.left - 1) g (4096 + 2 * looked + 2))) (eq-eqb x c e))

      pub looked_next : (x ≡ c → ⊥) → Looked (looked + 1)
      looked_next d =
          let further : 4096 + 2 * looked + 2 ≡ 4096 + 2 * (looked + 1) = omega arith in
          record {
            left = so_far.left - 1;
            sum = omega (arith, so_far.sum);
            later =
                one_more
                ∙ (ap (λ b. b || is_listed c (ciphers_at (so_far.left - 1) g (4096 + 2 * looked + 2))) (ne_eqb x c d)
                ∙ ap (λ k. is_listed c (ciphers_at (so_far.left - 1) g k)) further);
          }

-- how many there are
pub own_many : (n : ℕ) → 255 < n → (255 ≡ own_count n) × (255 ≤ 255)
unfolding own_count
own_many n h = (rw (lt-ltb 255 n h), omega arith)

pub own_few : (n : ℕ) → n ≤ 255 → (n ≡ own_count n) × (n ≤ 255)
unfolding own_count
own_few n h = (rw (le-ltb 255 n h), h)

-- the cipher of Init2
module _ (n : ℕ) (g : List ℕ) (c count : ℕ) (is-cipher : c ≡ number_at 2 g 8) (is_count : count ≡ own_count n) where
  two_chosen : (b : Bool) → b ≡ is_listed c (ciphers_at count g 4096) → cond b (some c) none ≡ chosen_in true n g
  unfolding chosen_in ciphers_at first_that in_init1 own_from
  two_chosen b e = ap (λ x. cond x (some c) none) (e ∙ ap (λ k. is_listed c (ciphers_at k g 4096)) is_count) ∙ ap (λ x. cond (is_listed x (ciphers_at (own_count n) g 4096)) (some x) none) is-cipher

  pub two_taken : (b : Bool) → b ≡ is_listed c (ciphers_at count g 4096) → b ≡ true → some c ≡ chosen_in true n g
  two_taken b e t = ap (λ x. cond x (some c) none) (sym t) ∙ two_chosen b e

  pub two_none : (b : Bool) → b ≡ is_listed c (ciphers_at count g 4096) → b ≡ false → none ≡ chosen_in true n g
  two_none b e t = ap (λ x. cond x (some c) none) (sym t) ∙ two_chosen b e

pub one_taken : (two : Bool) (n : ℕ) (g : List ℕ) (en : Enabled) (x : Option ℕ) → en ≡ enabled_in n → x ≡ first_that (is_enabled en) (ciphers_at (count_at init1 g) g 9) → two ≡ false → x ≡ chosen_in two n g
unfolding chosen_in
one_taken two n g en x q e h = e ∙ (ap (λ y. first_that (is_enabled y) (ciphers_at (count_at init1 g) g 9)) q ∙ ap (λ b. chosen_in b n g) (sym h))

pub two_is : (two : Bool) (n : ℕ) (g : List ℕ) (x : Option ℕ) → two ≡ true → x ≡ chosen_in true n g → x ≡ chosen_in two n g
two_is two n g x e q = q ∙ ap (λ b. chosen_in b n g) (sym e)
