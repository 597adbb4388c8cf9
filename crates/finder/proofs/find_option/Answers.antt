-- `find_option` meets its contract: the part that `locate` names is the part that `finding` names.
use native.Mathlib.Omega.{arith}
use Rattle.finder.proofs.Found.{found_within, found_bytes, no_bytes, found_start, no_start}
use mathlib.Core.Path.{◌≡◌, refl}
use Prim.Native.Nat.{ℕ, ◌+◌}
use Rattle.finder.proofs.find_option.Goals as goal

place : (o i j : ℕ) → i ≡ j → i + o ≡ o + j
place o i j e = omega arith

pub overflow_add-result : goal.overflow_add-result
overflow_add-result c = let h = found_within _ _ _ c.locate-place.ensures _ _ c.in-Found.is in omega arith

pub slice_bounds-result-end : goal.slice_bounds-result-end
slice_bounds-result-end c = let h = found_within _ _ _ c.locate-place.ensures _ _ c.in-Found.is in omega arith

pub returns-in-Found : goal.returns-in-Found
returns-in-Found c = (found_bytes _ _ _ c.locate-place.ensures _ _ c.in-Found.is, refl, let h = found_start _ _ _ c.locate-place.ensures _ _ c.in-Found.is in place _ _ _ h)

pub returns-in_default : goal.returns-in_default
returns-in_default c =
    (no_bytes _ _ _ c.locate-place.ensures c.in_default.not-Found, refl, let h = no_start _ _ _ c.locate-place.ensures c.in_default.not-Found in place _ _ _ h)
