-- Refused exactly with 3, and then all zeros: for any arguments, whatever the transcript. Assumes nothing.
use Rattle.std.specs.Prelude.{ℕ, ◌%◌, List, [], ◌∷◌, ◌||◌, ◌↔◌, ltb, eqb, length}
use Rattle.std.proofs.Math.Path.{◌≡◌, refl, sym, ap}
use Rattle.std.proofs.Common.{◌∙◌}
use Rattle.std.proofs.Math.Bool.{not}
use Rattle.std.proofs.Math.Option.{Option, none, some}
use native.Mathlib.Omega.{arith}
use Rattle.refusals.specs.Rows.{refusal, Least}
use Rattle.refusals.specs.RowLaws.{first_is_least}
use Rattle.eno.specs.Tep.{is_known}
use Rattle.key_terms.specs.Terms.{Terms, terms}
use Rattle.key_terms.specs.Calls.{Says, refused, resumed, no_terms, zeros, given, unless, unfit, resumption_terms}
use Rattle.key_terms.specs.Refusals.{number3, rows, applies, refused_by}

refused_back : (x : Says) (n : ℕ) → refused_by x ≡ some n → x ≡ refused n
refused_back (refused m) n e = let q : m ≡ n = cc in ap refused q
refused_back resumed n e = let z : ◌≡◌ {A = ℕ} 0 1 = cc in absurd (omega arith)
refused_back no_terms n e = let z : ◌≡◌ {A = ℕ} 0 1 = cc in absurd (omega arith)

given_taken : (x : Option Terms) → refused_by (given x).says ≡ none
unfolding given zeros
given_taken none = refl
given_taken (some x) = refl

module _ (role tep : ℕ) (identifier transcript : List ℕ) where
  refused_by_rows : refused_by (resumption_terms role tep identifier transcript).says ≡ refusal (rows role tep identifier)
  unfolding resumption_terms rows number3 unfit unless zeros
  refused_by_rows = go (refusal ((ltb 1 role || not (is_known (tep % 128)) || not (eqb (length identifier) 18), 3) ∷ []))
    where
      go : (m : Option ℕ) → refused_by (unless m (given (terms role (tep % 128) identifier transcript))).says ≡ m
      go none = given_taken (terms role (tep % 128) identifier transcript)
      go (some n) = refl

  -- refused with n exactly when n is the least number that applies; so 3 is the only one, whatever the transcript
  pub refused_exactly : (n : ℕ) → ((resumption_terms role tep identifier transcript).says ≡ refused n) ↔ Least (applies role tep identifier) n
  unfolding applies rows
  refused_exactly n =
      let both = first_is_least (rows role tep identifier) 0 (omega arith, tt) n in (
        λ e. both.0 (sym refused_by_rows ∙ ap refused_by e),
        λ l. refused_back (resumption_terms role tep identifier transcript).says n (refused_by_rows ∙ both.1 l),
      )

  -- a refusal gives zeros
  pub refusal_gives_zeros : (n : ℕ) → (resumption_terms role tep identifier transcript).says ≡ refused n → resumption_terms role tep identifier transcript ≡ zeros (refused n)
  unfolding resumption_terms unless zeros
  refusal_gives_zeros n e = go (refusal ((unfit role tep identifier, 3) ∷ [])) e
    where
      go : (m : Option ℕ) → (unless m (given (terms role (tep % 128) identifier transcript))).says ≡ refused n
          → unless m (given (terms role (tep % 128) identifier transcript)) ≡ zeros (refused n)
      go none f = let g : none ≡ some n = sym (given_taken (terms role (tep % 128) identifier transcript)) ∙ ap refused_by f in let z : ◌≡◌ {A = ℕ} 0 1 = cc in absurd (omega arith)
      go (some m) f = let q : m ≡ n = cc in ap (λ k. zeros (refused k)) q
