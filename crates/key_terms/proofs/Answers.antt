-- The answer of the call in document 01's numbers and values; the view loses nothing.
use Rattle.std.specs.Prelude.{ℕ, ◌≡◌, refl, Bool, true, false, cond, eqb, Option, Some, None, Result, Ok, Err}
use Rattle.std.proofs.Common.{sym, ◌∙◌, ap}
use Rattle.key_terms.specs.Calls.{Says, refused, resumed, no_terms, Outcome, zeros}
use Rattle.key_terms.specs.declared.Unfit.{Unfit}
use Rattle.key_terms.specs.declared.Role.{Role}
use Rattle.key_terms.specs.declared.Role.TheVariants as r
use Rattle.key_terms.specs.declared.ResumptionTerms.{ResumptionTerms}
use Rattle.key_terms.specs.Answers.{role_number, says_of, terms_told}

-- an answer without its terms
abbrev pub said : Result (Option ResumptionTerms) Unfit → Result Bool Unfit
said (Ok (Some a)) = Ok true
said (Ok None) = Ok false
said (Err e) = Err e

abbrev says_in : Says → Result Bool Unfit
says_in (refused n) = Err (record {})
says_in resumed = Ok true
says_in no_terms = Ok false

says_back : (a : Result (Option ResumptionTerms) Unfit) → says_in (says_of a) ≡ said a
says_back (Ok (Some a)) = refl
says_back (Ok None) = refl
says_back (Err e) = refl

-- two answers that say the same are refused alike, and have terms alike
pub says_tells : (a b : Result (Option ResumptionTerms) Unfit) → says_of a ≡ says_of b → said a ≡ said b
says_tells a b e = sym (says_back a) ∙ (ap says_in e ∙ says_back b)

abbrev role_in : ℕ → Role
role_in n = cond (eqb n 0) r.A r.B

role_back : (x : Role) → role_in (role_number x) ≡ x
role_back r.A = refl
role_back r.B = refl

abbrev terms_by_says : Says → Outcome → Result (Option ResumptionTerms) Unfit
terms_by_says (refused n) x = Err (record {})
terms_by_says resumed x = Ok (Some (record { original = role_in x.original; length_a = x.length_a; nonce_a = x.nonce_a; length_b = x.length_b; nonce_b = x.nonce_b }))
terms_by_says no_terms x = Ok None

terms_back : (a : Result (Option ResumptionTerms) Unfit) → terms_by_says (terms_told a).says (terms_told a) ≡ a
unfolding zeros
terms_back (Ok (Some a)) = ap (λ (x : Role). Ok (Some (record { original = x; length_a = a.length_a; nonce_a = a.nonce_a; length_b = a.length_b; nonce_b = a.nonce_b }))) (role_back a.original)
terms_back (Ok None) = refl
terms_back (Err e) = refl

-- two answers that are told alike are the same
pub terms_tells : (a b : Result (Option ResumptionTerms) Unfit) → terms_told a ≡ terms_told b → a ≡ b
terms_tells a b e = sym (terms_back a) ∙ (ap (λ (x : Outcome). terms_by_says x.says x) e ∙ terms_back b)
