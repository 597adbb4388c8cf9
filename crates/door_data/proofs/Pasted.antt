-- An option over 40 zeros.
use Prim.Native.Nat.{ℕ, zero, suc, ◌+◌, ◌-◌, ◌≤◌}
use mathlib.Core.Path.{◌≡◌, ◌∙◌, ap}
use mathlib.Core.List.{List, ◌++◌}
use native.Mathlib.Omega.{arith}
use native.Mathlib.Decide.{dec_lt}
use borrow.Author.Tests.{le-leb, lt-leb}
use lib.ListN.{length, drop, replicate, length-replicate}
use Rattle.wire.specs.Bytes.{pasted}
use Rattle.wire.specs.ByteLaws.{pasted_fits, pasted_over}
use Rattle.door.specs.Door.{kept}
use Rattle.door_data.specs.Kept.{kept_option}

zeros_left : (n m : ℕ) → drop n (replicate {A = ℕ} m 0) ≡ replicate (m - n) 0
zeros_left zero m = ap (λ k. replicate k 0) (let q : m ≡ m - 0 = omega arith in q)
zeros_left (suc n) zero = ap (λ k. replicate k 0) (let q : 0 ≡ 0 - suc n = omega arith in q)
zeros_left (suc n) (suc m) = zeros_left n m ∙ ap (λ k. replicate k 0) (let q : m - n ≡ suc m - suc n = omega arith in q)

fits : (o : List ℕ) → length o ≤ 40 → pasted (replicate 40 0) 0 o ≡ kept o
unfolding kept
fits o h =
    pasted_fits (replicate 40 0) 0 o (omega (arith, length-replicate {A = ℕ} 40 0))
    ∙ ap (λ l. o ++ l) (ap (λ k. drop k (replicate 40 0)) (let q : 0 + length o ≡ length o = omega arith in q) ∙ zeros_left (length o) 40)

pub pasted_kept : (o t : List ℕ) → t ≡ pasted (replicate 40 0) 0 o → t ≡ kept_option o
unfolding kept_option
pasted_kept o t e = elim (dec_lt 40 (length o)) [
  | yes h ↦ e ∙ (pasted_over (replicate 40 0) 0 o (omega (arith, length-replicate {A = ℕ} 40 0)) ∙ simp (lt-leb _ _ h))
  | no h ↦ let k : length o ≤ 40 = omega arith in e ∙ (fits o k ∙ simp (le-leb _ _ k))
]
