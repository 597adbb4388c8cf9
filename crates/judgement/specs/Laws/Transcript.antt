-- The transcript that is written: two options, one behind the other, in an array of zeros. Assumes nothing.
use Rattle.std.specs.Prelude.{ℕ, zero, suc, ◌+◌, ◌-◌, ◌≤◌, ◌≡◌, List, ◌++◌, length, drop, replicate}
use Rattle.std.proofs.Common.{◌∙◌, ap, arith, length-append}
use Rattle.std.proofs.lemmas.List.{length-replicate}
use Rattle.wire.specs.Bytes.{pasted}
use Rattle.wire.specs.ByteLaws.{pasted_fits, pasted_twice}
use Rattle.judgement.specs.Answers.{most_transcript, padded}

drop_zeros : (n k : ℕ) → drop {A = ℕ} k (replicate n 0) ≡ replicate (n - k) 0
drop_zeros n zero = ap (λ m. replicate m 0) (let e : n ≡ n - 0 = omega arith in e)
drop_zeros zero (suc k) = ap (λ m. replicate m 0) (let e : 0 ≡ 0 - suc k = omega arith in e)
drop_zeros (suc n) (suc k) = drop_zeros n k ∙ ap (λ m. replicate m 0) (let e : n - k ≡ suc n - suc k = omega arith in e)

zeros : List ℕ
zeros = replicate most_transcript 0

pasted_padded : (t : List ℕ) → length t ≤ most_transcript → pasted zeros 0 t ≡ padded t
unfolding padded zeros
pasted_padded t h =
    let l = length-replicate {A = ℕ} most_transcript 0 in
    let z : 0 + length t ≡ length t = omega arith in
    pasted_fits zeros 0 t (omega arith) ∙ (ap (λ k. t ++ drop k (replicate most_transcript 0)) z ∙ ap (λ r. t ++ r) (drop_zeros most_transcript (length t)))

pub both_written : (a b : List ℕ) → length a ≤ 40 → length b ≤ 40 → (once twice : List ℕ) → once ≡ pasted (replicate most_transcript 0) 0 a → twice ≡ pasted once (length a) b
    → twice ≡ padded (a ++ b)
unfolding zeros
both_written a b la lb once twice q r =
    let l = length-replicate {A = ℕ} most_transcript 0 in
    let n = length-append a b in
    let i : length a ≡ 0 + length a = omega arith in
    r ∙ (ap (λ x. pasted x (length a) b) q
    ∙ (ap (λ k. pasted (pasted (replicate most_transcript 0) 0 a) k b) i
    ∙ (pasted_twice (replicate most_transcript 0) a b 0 (omega arith) ∙ pasted_padded (a ++ b) (omega arith))))
