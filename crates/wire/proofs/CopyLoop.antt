-- The loop that copies. Assumes nothing.
use Prim.Native.Nat.{ℕ, ◌+◌, ◌≤◌, ◌<◌}
use mathlib.Core.Path.{◌≡◌, sym, ◌∙◌, ap}
use mathlib.Core.List.{List, ◌++◌}
use native.Mathlib.Numerals.{add-one}
use native.Mathlib.Omega.{arith}
use lib.ListN.{length, get_or, take, drop, set}
use lib.Seq.{paste, paste-suc, take-length}
use Rattle.wire.specs.Bytes.{pasted}
use Rattle.wire.specs.ByteLaws.{pasted_fits}

-- the first k bytes of v are copied
module _ (s₀ : List ℕ) (at : ℕ) (v : List ℕ) where
  pub copied_step : (s : List ℕ) (k : ℕ) → at + length v ≤ length s₀ → k < length v → s ≡ paste s₀ at v k → set s (at + k) (get_or v k 0) ≡ paste s₀ at v (k + 1)
  copied_step s k r h e = ap (λ l. set l (at + k) (get_or v k 0)) e ∙ (paste-suc s₀ at v k 0 (omega arith) h ∙ ap (paste s₀ at v) (sym (add-one k)))

  pub copied_done : (s : List ℕ) (k : ℕ) → at + length v ≤ length s₀ → s ≡ paste s₀ at v k → k ≤ length v → length v ≤ k → s ≡ pasted s₀ at v
  copied_done s k r e h l =
      let q : k ≡ length v = omega arith in
      e ∙ (ap (paste s₀ at v) q ∙ (ap (λ m. take at s₀ ++ m ++ drop (at + length v) s₀) (take-length v) ∙ sym (pasted_fits s₀ at v r)))
