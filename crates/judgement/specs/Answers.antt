-- The answers of a judge, in document 01's numbers and values.
use Rattle.std.specs.Prelude.{ℕ, zero, suc, ◌+◌, ◌-◌, ◌≡◌, refl, List, [], ◌∷◌, ◌++◌, Bool, true, false, length, take, replicate}
use Rattle.std.proofs.Common.{sym, ◌∙◌, ap, ap₂}
use Rattle.eno.specs.Cause.{numbered}
use Rattle.eno.specs.declared.Cause.{Cause}
use Rattle.eno.specs.Judge.{way_if, is_resumed, Judged, refuse, plain, encrypt}
use Rattle.judgement.specs.declared.Reason.{Reason}
use Rattle.judgement.specs.declared.Reason.TheVariants as reason
use Rattle.judgement.specs.declared.Verdict.{Verdict}
use Rattle.judgement.specs.declared.Verdict.TheVariants as verdict
use Rattle.judgement.specs.declared.Judgement.{Judgement}

-- the reasons for plain TCP
abbrev pub cause_of : Reason → Cause
cause_of (reason.Unreadable place kind) = record { reason = 1; place = place; kind = kind }
cause_of reason.NoOption = numbered 2
cause_of reason.IllFormed = numbered 3
cause_of reason.EqualRoles = numbered 4
cause_of reason.NotAware = numbered 5
cause_of reason.NoValidTep = numbered 6
cause_of reason.Altered = numbered 7

-- refused with 2; plain with the reason's number; or role, TEP byte, way and transcript
abbrev pub judged_of : Verdict → List ℕ → Judged
judged_of verdict.Refused t = refuse 2
judged_of (verdict.Plain r) t = plain (cause_of r)
judged_of (verdict.Encrypted role byte is_resumed_lem) t = encrypt role byte (way_if is_resumed_lem) t

abbrev pub transcript_of : Judged → List ℕ
transcript_of (refuse n) = []
transcript_of (plain c) = []
transcript_of (encrypt role byte way t) = t

-- the largest transcript: two options of 40 bytes
abbrev pub most_transcript : ℕ
most_transcript = 80

-- a transcript, and zeros to the array's end
unfoldable pub padded : List ℕ → List ℕ
padded t = t ++ replicate (most_transcript - length t) 0

unfoldable pub without_transcript : Verdict → Judgement
without_transcript v = record { verdict = v; length = 0; transcript = replicate most_transcript 0 }

-- the answer with a transcript: A's option followed by B's
unfoldable pub encrypted_as : (a b : List ℕ) → (role byte : ℕ) → Bool → Judgement
encrypted_as a b role byte again = record { verdict = verdict.Encrypted role byte again; length = length a + length b; transcript = padded (a ++ b) }

-- the answer r says what was judged, and nothing more: its verdict by number and values, its array whole
pub record Judges (j : Judged) (r : Judgement) : Type 0 where
  pub told : judged_of r.verdict (transcript_of j) ≡ j
  pub counted : r.length ≡ length (transcript_of j)
  pub filled : r.transcript ≡ padded (transcript_of j)

-- the reason with a number
abbrev reason_by : ℕ → Cause → Reason
reason_by zero c = reason.Altered
reason_by (suc zero) c = reason.Unreadable c.place c.kind
reason_by (suc (suc zero)) c = reason.NoOption
reason_by (suc (suc (suc zero))) c = reason.IllFormed
reason_by (suc (suc (suc (suc zero)))) c = reason.EqualRoles
reason_by (suc (suc (suc (suc (suc zero))))) c = reason.NotAware
reason_by (suc (suc (suc (suc (suc (suc zero)))))) c = reason.NoValidTep
reason_by (suc (suc (suc (suc (suc (suc (suc n))))))) c = reason.Altered

abbrev reason_of : Cause → Reason
reason_of c = reason_by c.reason c

reason_back : (r : Reason) → reason_of (cause_of r) ≡ r
reason_back (reason.Unreadable place kind) = refl
reason_back reason.NoOption = refl
reason_back reason.IllFormed = refl
reason_back reason.EqualRoles = refl
reason_back reason.NotAware = refl
reason_back reason.NoValidTep = refl
reason_back reason.Altered = refl

-- the numbers lose nothing: two reasons with the same number are the same
pub reason_tells : (a b : Reason) → cause_of a ≡ cause_of b → a ≡ b
reason_tells a b e = sym (reason_back a) ∙ (ap reason_of e ∙ reason_back b)

abbrev verdict_of : Judged → Verdict
verdict_of (refuse n) = verdict.Refused
verdict_of (plain c) = verdict.Plain (reason_of c)
verdict_of (encrypt role byte way t) = verdict.Encrypted role byte (is_resumed way)

resumed_back : (b : Bool) → is_resumed (way_if b) ≡ b
resumed_back true = refl
resumed_back false = refl

verdict_back : (v : Verdict) (t : List ℕ) → verdict_of (judged_of v t) ≡ v
verdict_back verdict.Refused t = refl
verdict_back (verdict.Plain r) t = ap verdict.Plain (reason_back r)
verdict_back (verdict.Encrypted role byte b) t = ap (verdict.Encrypted role byte) (resumed_back b)

-- the number and the values lose nothing: two answers that say the same are the same, arrays included
pub judgement_tells : (j : Judged) (a b : Judgement) → Judges j a → Judges j b → a ≡ b
judgement_tells j a b p q =
    let v : a.verdict ≡ b.verdict =
    sym (verdict_back a.verdict (transcript_of j)) ∙ (ap verdict_of (p.told ∙ sym q.told) ∙ verdict_back b.verdict (transcript_of j)) in
    let l : a.length ≡ b.length = p.counted ∙ sym q.counted in
    let t : a.transcript ≡ b.transcript = p.filled ∙ sym q.filled in
    λ i. record { verdict = v i; length = l i; transcript = t i }
