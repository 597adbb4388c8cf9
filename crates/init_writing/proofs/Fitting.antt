-- Laws of arguments that fit. Assumes nothing.
use Prim.Native.Nat.{ℕ, ◌≤◌, ◌<◌}
use mathlib.Core.Path.{◌≡◌, refl, sym, ◌∙◌, ap}
use mathlib.Core.List.{List}
use mathlib.Core.Logic.{◌⊎◌, inl, inr}
use mathlib.Core.Bool.{Bool, true, false, not, ◌&&◌}
use native.Mathlib.Omega.{arith}
use borrow.Author.Tests.{le-leb, lt-leb, eq-eqb, eqb-true, eqb-false, ne_eqb}
use lib.Dec.{leb, eqb}
use lib.ListN.{length}
use Rattle.eno.specs.Tep.{key_length}
use Rattle.init_layout.specs.Layout.{is_void}
use Rattle.init_layout.specs.Reading.{in_init1}
use Rattle.init_layout.specs.Writing.{parts_fit, ciphers_fit}

-- TEP, nonce and key
module _ (t : ℕ) (nonce key : List ℕ) (k : ℕ) (is_key : k ≡ key_length t) where
  pub key_decides : (k ≡ 0 → ⊥) → length nonce ≡ 32 → eqb (length key) k ≡ parts_fit t nonce key
  unfolding parts_fit
  key_decides z h = let e : key_length t ≡ 0 → ⊥ = λ q. z (is_key ∙ q) in simp (ne_eqb _ _ e, eq-eqb _ _ h, is_key)

  no_init : k ≡ 0 → false ≡ parts_fit t nonce key
  unfolding parts_fit
  no_init z = let e : key_length t ≡ 0 = omega arith in simp (eq-eqb _ _ e)

  other_nonce : (k ≡ 0 → ⊥) → (length nonce ≡ 32 → ⊥) → false ≡ parts_fit t nonce key
  unfolding parts_fit
  other_nonce z h = let e : key_length t ≡ 0 → ⊥ = λ q. z (is_key ∙ q) in simp (ne_eqb _ _ e, ne_eqb _ _ h)

  pub not_both : ((k ≡ 0 → ⊥) × (length nonce ≡ 32 → ⊥)) ⊎ (k ≡ 0) → false ≡ parts_fit t nonce key
  not_both (inl h) = other_nonce h.0 h.1
  not_both (inr z) = no_init z

-- the list of ciphers
module _ (l : List ℕ) where
  list_is : (a b v : Bool) → leb 1 (length l) ≡ a → leb (length l) 255 ≡ b → in_init1 l 0 ≡ v → a && b && not v ≡ ciphers_fit l
  unfolding ciphers_fit is_void in_init1
  list_is a b v p q r =
      ap (λ x. x && b && not v) (sym p)
      ∙ (ap (λ x. leb 1 (length l) && x && not v) (sym q) ∙ ap (λ x. leb 1 (length l) && leb (length l) 255 && not x) (sym r))

  pub list_decides : 1 ≤ length l → length l ≤ 255 → (v : Bool) → v ≡ in_init1 l 0 → not v ≡ ciphers_fit l
  list_decides some few v is_listed = list_is true true v (le-leb 1 (length l) some) (le-leb (length l) 255 few) (sym is_listed)

  pub list_other : ((1 ≤ length l) × (255 < length l)) ⊎ (length l < 1) → false ≡ ciphers_fit l
  list_other (inl h) = list_is true false (in_init1 l 0) (le-leb 1 (length l) h.0) (lt-leb (length l) 255 h.1) refl
  list_other (inr h) = list_is false (leb (length l) 255) (in_init1 l 0) (lt-leb 1 (length l) h) refl refl
