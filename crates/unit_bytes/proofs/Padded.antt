-- The bytes from a place on, where those past the end read as 0. Assumes nothing.
use Rattle.std.proofs.Common.{◌≡◌, ℕ, zero, suc, ◌+◌, ◌-◌, ◌<◌, List, ◌++◌, length, take, drop, get_or, min, arith, sym, ◌∙◌, ap, add-zero, ext_get_or, length-append, length-take, length-drop}
use Rattle.std.proofs.Math.ListN.{replicate, length-replicate}
use Rattle.std.proofs.lemmas.Grind.{common_steps}
use Rattle.std.proofs.lemmas.List.{get_or-replicate}
use Rattle.std.specs.List.{between}
use Rattle.wire.specs.Bytes.{bytes_from}
use Rattle.wire.specs.ByteLaws.{length_bytes_from}

bytes_at : (n : ℕ) (s : List ℕ) (i k : ℕ) → k < n → get_or (bytes_from n s i) k 0 ≡ get_or s (i + k) 0
unfolding bytes_from
bytes_at zero s i k h = absurd (omega arith)
bytes_at (suc n) s i zero h = ap (λ j. get_or s j 0) (sym (add-zero i))
bytes_at (suc n) s i (suc k) h = let e : i + 1 + k ≡ i + suc k = omega arith in bytes_at n s (i + 1) k (omega arith) ∙ ap (λ j. get_or s j 0) e

module _ (s : List ℕ) (w at k n : ℕ) (start : k ≡ min at (length s)) (count : n ≡ min w (length s - k)) where
  long : length (take n (between k (length s) s) ++ drop n (replicate w 0)) ≡ w
  long = simp (length-append, length-take, length-drop, length-replicate) (omega arith)

  each : (j : ℕ) → j < w → get_or (take n (between k (length s) s) ++ drop n (replicate w 0)) j 0 ≡ get_or s (at + j) 0
  each j h = grind (arith, common_steps, get_or-replicate {A = ℕ})

  pub padded : take n (between k (length s) s) ++ drop n (replicate w 0) ≡ bytes_from w s at
  padded = ext_get_or 0 _ (bytes_from w s at) (long ∙ sym (length_bytes_from w s at)) (λ j h. each j (omega (arith, long)) ∙ sym (bytes_at w s at j (omega (arith, long))))
