-- The phase that a number stands for.
use Prim.Native.Nat.{ℕ, zero, suc}
use mathlib.Core.Path.{◌≡◌, refl}
use native.Mathlib.Omega.{arith}
use borrow.Author.Tests.{lt-ltb}
use lib.Dec.{ltb, eqb}
use Rattle.door.specs.Door.{idle, phase_of}
use Rattle.door.specs.Offer.{is_idle}

-- a number that no phase has
pub phase_idle : (n : ℕ) → (n ≡ 1 → ⊥) → (n ≡ 2 → ⊥) → (n ≡ 3 → ⊥) → (n ≡ 4 → ⊥) → (n ≡ 5 → ⊥) → idle ≡ phase_of n
unfolding phase_of
phase_idle zero h1 h2 h3 h4 h5 = refl
phase_idle (suc zero) h1 h2 h3 h4 h5 = absurd (h1 refl)
phase_idle (suc (suc zero)) h1 h2 h3 h4 h5 = absurd (h2 refl)
phase_idle (suc (suc (suc zero))) h1 h2 h3 h4 h5 = absurd (h3 refl)
phase_idle (suc (suc (suc (suc zero)))) h1 h2 h3 h4 h5 = absurd (h4 refl)
phase_idle (suc (suc (suc (suc (suc zero))))) h1 h2 h3 h4 h5 = absurd (h5 refl)
phase_idle (suc (suc (suc (suc (suc (suc n)))))) h1 h2 h3 h4 h5 = refl

-- Idle is 0, and every number above the phases
pub idle_zero : (p : ℕ) → p ≡ 0 → eqb p 0 ≡ is_idle (phase_of p)
unfolding phase_of
idle_zero p e = rw e

pub idle_other : (p : ℕ) → (p ≡ 0 → ⊥) → ltb 5 p ≡ is_idle (phase_of p)
unfolding phase_of
idle_other zero h = absurd (h refl)
idle_other (suc zero) h = refl
idle_other (suc (suc zero)) h = refl
idle_other (suc (suc (suc zero))) h = refl
idle_other (suc (suc (suc (suc zero)))) h = refl
idle_other (suc (suc (suc (suc (suc zero))))) h = refl
idle_other (suc (suc (suc (suc (suc (suc n)))))) h = lt-ltb 5 (suc (suc (suc (suc (suc (suc n)))))) (omega arith)
