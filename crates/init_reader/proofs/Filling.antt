-- Laws of the readers' fields: nonce and key. Assumes nothing.
use Prim.Native.Nat.{ℕ, ◌+◌, ◌-◌, ◌≤◌}
use mathlib.Core.Path.{◌≡◌, sym, ◌∙◌, ap}
use mathlib.Core.List.{List, ◌++◌, append-nil}
use native.Mathlib.Nat.{zero-add}
use native.Mathlib.Omega.{arith}
use lib.ListN.{length, take, drop, replicate, length-replicate, replicate-append-replicate}
use lib.Seq.{drop_at}
use Rattle.wire.specs.Bytes.{pasted, part, bytes_from}
use Rattle.wire.specs.ByteLaws.{pasted_fits, length_part, bytes_from_part}
use Rattle.init_layout.specs.Reading.{zeros, padded}

-- nonce and key, in arrays of zeros
drop_zeros : (n k : ℕ) → k ≤ n → drop k (replicate {A = ℕ} n 0) ≡ zeros (n - k)
unfolding zeros
drop_zeros n k h =
    let e : k + (n - k) ≡ n = omega arith in
    ap (λ j. drop k (replicate {A = ℕ} j 0)) (sym e)
    ∙ (ap (drop k) (sym (replicate-append-replicate k (n - k) 0)) ∙ drop_at (replicate {A = ℕ} k 0) (replicate (n - k) 0) k (length-replicate k 0))

filled : (n : ℕ) (v : List ℕ) → length v ≤ n → pasted (replicate n 0) 0 v ≡ v ++ zeros (n - length v)
filled n v h =
    pasted_fits (replicate n 0) 0 v (omega (arith, length-replicate {A = ℕ} n 0))
    ∙ ap (λ l. v ++ l) (ap (λ k. drop k (replicate {A = ℕ} n 0)) (zero-add (length v)) ∙ drop_zeros n (length v) h)

module _ (s t : List ℕ) (at : ℕ) where
  pub nonce_filled : at + 32 ≤ length s → t ≡ take (at + 32 - at) (drop at s) → t ≡ bytes_from 32 s at
  unfolding part
  nonce_filled h e =
      let w : at + 32 - at ≡ 32 = omega arith in
      e ∙ (ap (λ k. take k (drop at s)) w ∙ sym (bytes_from_part 32 s at h))

  pub key_filled : (keys : ℕ) → at + keys ≤ length s → keys ≤ 56 → t ≡ pasted (replicate 56 0) 0 (take (at + keys - at) (drop at s)) → t ≡ padded (bytes_from keys s at)
  unfolding part padded
  key_filled keys h k e =
      let v = take keys (drop at s) in
      let n : length v ≡ keys = length_part at keys s h in
      let w : at + keys - at ≡ keys = omega arith in
      e ∙ (ap (λ j. pasted (replicate 56 0) 0 (take j (drop at s))) w ∙ filled 56 v (omega arith) ∙ ap (λ l. l ++ zeros (56 - length l)) (sym (bytes_from_part keys s at h)))
