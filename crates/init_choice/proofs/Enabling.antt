-- Laws of a cipher that is enabled. Assumes nothing.
use Prim.Native.Nat.{ℕ, ◌-◌}
use mathlib.Core.Path.{◌≡◌, refl, ◌∙◌}
use mathlib.Core.Bool.{Bool, true, false, ◌||◌}
use borrow.Author.Tests.{ne_eqb}
use Rattle.init_layout.specs.Reading.{is_enabled}
use Rattle.init_layout.specs.declared.Enabled.{Enabled}

-- a cipher that is enabled
or_false : (b : Bool) → b ≡ b || false
or_false true = refl
or_false false = refl

module _ (e : Enabled) (c : ℕ) where
  pub enabled_1 : c ≡ 1 → e.aes128 ≡ is_enabled e c
  unfolding is_enabled
  enabled_1 h = rw h (or_false _ ∙ or_false _)

  pub enabled_2 : c ≡ 2 → e.aes256 ≡ is_enabled e c
  unfolding is_enabled
  enabled_2 h = rw h (or_false _)

  pub enabled_16 : c ≡ 16 → e.chacha20 ≡ is_enabled e c
  unfolding is_enabled
  enabled_16 h = rw h refl

  pub enabled_none : (c ≡ 1 → ⊥) → (c ≡ 2 → ⊥) → (c ≡ 16 → ⊥) → false ≡ is_enabled e c
  unfolding is_enabled
  enabled_none x y z = simp (ne_eqb _ _ x, ne_eqb _ _ y, ne_eqb _ _ z)
