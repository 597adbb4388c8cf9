-- The cases of `tep_of`, and what its answers say.
use Rattle.std.specs.Prelude.{ℕ, ◌≤◌, ◌<◌, ◌≡◌, true, false, ◌&&◌, Some, None, is_some}
use Rattle.std.proofs.Common.{arith, refl}
use Rattle.std.proofs.Math.Decide.{dec_lt}
use borrow.Author.Tests.{le-leb, lt-leb, ne_eqb}
use Rattle.eno.specs.Tep.{is_known, key_length, name_of, tep_of}
use Rattle.eno.specs.declared.Tep.{Tep}
use Rattle.eno.specs.declared.Tep.TheVariants as tep

pub known_yes : (t : ℕ) → 0x21 ≤ t → t ≤ 0x24 → true ≡ is_known t
unfolding is_known
known_yes t low high = simp (le-leb _ _ low, le-leb _ _ high)

pub known_below : (t : ℕ) → t < 0x21 → false ≡ is_known t
unfolding is_known
known_below t h = simp (lt-leb _ _ h)

pub known_above : (t : ℕ) → 0x24 < t → false ≡ is_known t
unfolding is_known
known_above t h =
    let low : 0x21 ≤ t = omega arith in
    simp (le-leb _ _ low, lt-leb _ _ h)

module _ (t : ℕ) where
  pub tep_25519 : t ≡ 0x23 → Some tep.Curve25519 ≡ tep_of t
  unfolding tep_of
  tep_25519 e = simp e

  pub tep_448 : t ≡ 0x24 → Some tep.Curve448 ≡ tep_of t
  unfolding tep_of
  tep_448 e = simp e

  pub tep_p256 : t ≡ 0x21 → Some tep.P256 ≡ tep_of t
  unfolding tep_of
  tep_p256 e = simp e

  pub tep_p521 : t ≡ 0x22 → Some tep.P521 ≡ tep_of t
  unfolding tep_of
  tep_p521 e = simp e

  pub tep_unknown : (t ≡ 0x21 → ⊥) → (t ≡ 0x22 → ⊥) → (t ≡ 0x23 → ⊥) → (t ≡ 0x24 → ⊥) → None ≡ tep_of t
  unfolding tep_of
  tep_unknown a b c d = simp (ne_eqb _ _ a, ne_eqb _ _ b, ne_eqb _ _ c, ne_eqb _ _ d)

-- the name says which it is: the numbers lose nothing
pub name_tells : (x : Tep) → tep_of (name_of x) ≡ Some x
unfolding tep_of
name_tells tep.P256 = refl
name_tells tep.P521 = refl
name_tells tep.Curve25519 = refl
name_tells tep.Curve448 = refl
