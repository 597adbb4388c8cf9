-- Laws of a whole option: kind, length and contents, one after another.
use Rattle.std.specs.Prelude.{ℕ, ◌+◌, ◌≤◌, ◌<◌, ◌≡◌, List, [], ◌∷◌}
use Rattle.std.proofs.Math.Path.{refl, sym, ap, ap₂}
use Rattle.std.proofs.Common.{◌∙◌, le-ltb, lt-ltb}
use native.Mathlib.Omega.{arith}
use Rattle.std.proofs.Math.ListN.{length}
use Rattle.wire.specs.Bytes.{pasted}
use Rattle.eno.specs.Area.{eno_kind}
use Rattle.eno.specs.Option.{written_as, wrote, refused_with}
use Rattle.option_layout.specs.Puts.{Puts}
use Rattle.option_layout.specs.PutLaws.{puts_both}
use Rattle.option_layout.specs.Steps.{write_bytes}

-- the whole option
module _ (s contents : List ℕ) (n : ℕ) (long : n ≡ length contents + 2) where
  pub bytes_over : length s < n → written_as (refused_with 5) s ≡ write_bytes (eno_kind ∷ (length contents + 2) ∷ contents) s
  unfolding write_bytes
  bytes_over h =
      let k : length s < length (eno_kind ∷ (length contents + 2) ∷ contents) = omega arith in
      rw (lt-ltb _ _ k)

  pub bytes_written : n ≤ length s → (t u v : List ℕ) → t ≡ pasted s 0 (eno_kind ∷ []) → u ≡ pasted t 1 (n ∷ []) → v ≡ pasted u 2 contents
      → written_as (wrote n) v ≡ write_bytes (eno_kind ∷ (length contents + 2) ∷ contents) s
  unfolding write_bytes
  bytes_written h t u v p q r =
      let k : length (eno_kind ∷ (length contents + 2) ∷ contents) ≤ length s = omega arith in
      let first : Puts s 0 (eno_kind ∷ []) t 1 = record { bytes = p; next = refl } in
      let second : Puts t 1 (n ∷ []) u 2 = record { bytes = q; next = refl } in
      let third : Puts u 2 contents v (2 + length contents) = record { bytes = r; next = refl } in
      let two = puts_both s (eno_kind ∷ []) t (n ∷ []) u 0 1 2 (omega arith) first second in
      let all = puts_both s (eno_kind ∷ n ∷ []) u contents v 0 2 (2 + length contents) (omega arith) two third in
      let m : n ≡ length (eno_kind ∷ (length contents + 2) ∷ contents) = omega arith in
      ap₂ (λ a b. written_as (wrote a) b) m (all.bytes ∙ ap (λ a. pasted s 0 (eno_kind ∷ a ∷ contents)) long) ∙ sym (rw (le-ltb _ _ k))
