-- The marked rows of a word before its first free one: trailing zeros of the inverted word. Assumes nothing.
use mathlib.Core.Path.{◌≡◌, refl}
use Prim.Native.Nat.{ℕ, zero, suc, ◌-◌, ◌*◌, ◌/◌, ◌%◌, ◌^◌, ◌≤◌, ◌<◌}
use native.Mathlib.Nat.{pow-suc}
use native.Mathlib.Omega.{arith}
use lib.Count.{count_trailing_zeros, under}
use Rattle.unit.specs.Marks.{bits_of}
use Rattle.unit.specs.Unit.{or_next, first_free}
use Rattle.unit.proofs.Laws.Marks.{low_le}

under_next : (m x : ℕ) → m ≤ 1 → under (1 - m) x ≡ or_next m x
unfolding or_next
under_next zero x h = refl
under_next (suc zero) x h = refl
under_next (suc (suc m)) x h = absurd (omega arith)

-- trailing zeros of the inverted word
pub trailing_free : (n w : ℕ) → w < 2 ^ n → count_trailing_zeros n (2 ^ n - 1 - w) ≡ first_free (bits_of n w)
unfolding count_trailing_zeros bits_of first_free
trailing_free zero w h = refl
trailing_free (suc n) w h =
    let p : 2 ^ suc n ≡ 2 ^ n * 2 = pow-suc 2 n in
    let low : (2 ^ suc n - 1 - w) % 2 ≡ 1 - w % 2 = omega (arith, p) in
    let half : (2 ^ suc n - 1 - w) / 2 ≡ 2 ^ n - 1 - w / 2 = omega (arith, p) in
    rw (low, half, trailing_free n (w / 2) (omega (arith, p))) (under_next (w % 2) (first_free (bits_of n (w / 2))) (low_le w))
