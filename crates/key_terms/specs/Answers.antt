-- The answer of the call in document 01's numbers and values; the view loses nothing.
use Rattle.std.specs.Prelude.{ℕ, Option, Some, None, Result, Ok, Err}
use Rattle.std.proofs.Math.Option.{none, some}
use Rattle.std.proofs.Math.Option as papers
use Rattle.key_terms.specs.Terms.{Data}
use Rattle.key_terms.specs.Calls.{Says, refused, resumed, no_terms, Outcome, zeros}
use Rattle.key_terms.specs.declared.Unfit.{Unfit}
use Rattle.key_terms.specs.declared.Role.{Role}
use Rattle.key_terms.specs.declared.Role.TheVariants as r
use Rattle.key_terms.specs.declared.ResumptionTerms.{ResumptionTerms}
use Rattle.key_terms.specs.declared.DataAt.{DataAt}

abbrev pub role_number : Role → ℕ
role_number r.A = 0
role_number r.B = 1

-- 3 where the arguments do not fit
abbrev pub says_of : Result (Option ResumptionTerms) Unfit → Says
says_of (Ok (Some a)) = resumed
says_of (Ok None) = no_terms
says_of (Err e) = refused 3

-- zeros where there are no terms
abbrev pub terms_given : Option ResumptionTerms → Outcome
terms_given (Some a) = record { says = resumed; original = role_number a.original; length_a = a.length_a; nonce_a = a.nonce_a; length_b = a.length_b; nonce_b = a.nonce_b }
terms_given None = zeros no_terms

abbrev pub terms_told : Result (Option ResumptionTerms) Unfit → Outcome
terms_told (Ok a) = terms_given a
terms_told (Err e) = zeros (refused 3)

-- what the code tells of an option: where its resumption data stands
abbrev pub data_as : Option DataAt → papers.Option Data
data_as (Some d) = some (record { start = d.start; len = d.len })
data_as None = none

-- and of the two halves
abbrev pub role_as : Option Role → papers.Option ℕ
role_as (Some x) = some (role_number x)
role_as None = none
