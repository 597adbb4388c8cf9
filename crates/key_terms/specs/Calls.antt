-- The call on resumption terms: its refusal, and what it gives otherwise.
use Rattle.std.specs.Prelude.{ℕ, ◌-◌, ◌%◌, List, [], ◌∷◌, ◌++◌, Bool, not, ◌||◌, ltb, eqb, length, replicate}
use Rattle.std.proofs.Math.Option.{Option, none, some}
use Rattle.refusals.specs.Rows.{refusal}
use Rattle.eno.specs.Tep.{is_known}
use Rattle.key_terms.specs.Terms.{Terms, terms}

-- what the call says: refused with a number, that the connection has terms, or that it has none
pub data Says : Type 0 where
  refused : ℕ → Says
  resumed : Says
  no_terms : Says

-- the original role, and each nonce with its length, in eight bytes
pub record Outcome : Type 0 where
  pub says : Says
  pub original : ℕ
  pub length_a : ℕ
  pub nonce_a : List ℕ
  pub length_b : ℕ
  pub nonce_b : List ℕ

-- zeros behind a nonce
unfoldable pub in_eight : List ℕ → List ℕ
in_eight n = n ++ replicate (8 - length n) 0

-- zeros where there are no terms
unfoldable pub zeros : Says → Outcome
zeros s = record { says = s; original = 0; length_a = 0; nonce_a = replicate 8 0; length_b = 0; nonce_b = replicate 8 0 }

unfoldable pub given : Option Terms → Outcome
given none = zeros no_terms
given (some x) = record { says = resumed; original = x.original; length_a = length x.nonce_a; nonce_a = in_eight x.nonce_a; length_b = length x.nonce_b; nonce_b = in_eight x.nonce_b }

unfoldable pub unless : Option ℕ → Outcome → Outcome
unless none x = x
unless (some n) x = zeros (refused n)

-- a role above 1, a TEP that the unit does not know, v put aside, an identifier that has not 18 bytes
unfoldable pub unfit : (role tep : ℕ) (identifier : List ℕ) → Bool
unfit role tep identifier = ltb 1 role || not (is_known (tep % 128)) || not (eqb (length identifier) 18)

unfoldable pub resumption_terms : (role tep : ℕ) (identifier transcript : List ℕ) → Outcome
resumption_terms role tep identifier transcript =
    unless (refusal ((unfit role tep identifier, 3) ∷ [])) (given (terms role (tep % 128) identifier transcript))
