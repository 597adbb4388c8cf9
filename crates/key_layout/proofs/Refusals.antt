-- Demand 1 for the key schedule: a reply is `refused n` exactly when n is the least number that applies, and then all bytes are zeros. Assumes nothing.
use Rattle.std.specs.Prelude.{ℕ, List, [], ◌↔◌}
use Rattle.std.proofs.Math.Path.{◌≡◌, refl, sym, ap}
use Rattle.std.proofs.Common.{◌∙◌, arith}
use Rattle.std.proofs.Math.Option.{Option, none, some}
use Rattle.refusals.specs.Rows.{refusal, Rising, Least}
use Rattle.refusals.specs.RowLaws.{first_is_least}
use Rattle.hkdf_interface.specs.Interface.{longest}
use Rattle.key_layout.specs.Cipher.{is_cipher, fixed_length}
use Rattle.key_layout.specs.Outcome.{Reply, refused, made, Outcome, only, unless}
use Rattle.key_layout.specs.Calls.{Ask, first_secret, next_secret, master_key, next_master, master_key_at, traffic_keys, session_id, resumption_identifier, unfit_key, unfit_nonces, long_extract, keys_of, outcome}
use Rattle.key_layout.specs.Numbered.{not32, above8, number3, number17, rows, applies}
use Rattle.key_layout.specs.Refusals.{refused_by, bytes_in, fixed_in, zeros}

refused_back : (x : Reply) (n : ℕ) → refused_by x ≡ some n → x ≡ refused n
refused_back (refused m) n e = let q : m ≡ n = cc in ap refused q
refused_back made n e = let z : ◌≡◌ {A = ℕ} 0 1 = cc in absurd (omega arith)

module _ (bytes fixed : List ℕ) (x : Outcome) (taken : refused_by x.reply ≡ none) where
  told : (t : Option ℕ) → refused_by (unless t bytes fixed x).reply ≡ t
  unfolding unless
  told none = taken
  told (some n) = refl

  left : (t : Option ℕ) (n : ℕ) → refused_by (unless t bytes fixed x).reply ≡ some n → unless t bytes fixed x ≡ record { reply = refused n; bytes = bytes; size = 0; fixed = fixed }
  unfolding unless
  left none n e = let q : none ≡ some n = sym taken ∙ e in let z : ◌≡◌ {A = ℕ} 0 1 = cc in absurd (omega arith)
  left (some m) n e = let q : m ≡ n = cc in ap (λ i. record { reply = refused i; bytes = bytes; size = 0; fixed = fixed }) q

-- a refusal gives zeros
pub refusal_gives_zeros : (k : Ask) (n : ℕ) → (outcome k).reply ≡ refused n → outcome k ≡ zeros k n
unfolding outcome only keys_of bytes_in fixed_in fixed_length
refusal_gives_zeros (first_secret nonce_a transcript init1 init2 shared) n e = left _ [] _ refl _ n (ap refused_by e)
refusal_gives_zeros (next_secret secret) n e = left _ [] _ refl _ n (ap refused_by e)
refusal_gives_zeros (master_key secret nonce_a nonce_b) n e = left _ [] _ refl _ n (ap refused_by e)
refusal_gives_zeros (next_master master) n e = left _ [] _ refl _ n (ap refused_by e)
refusal_gives_zeros (master_key_at secret nonce_a nonce_b generation) n e = left _ [] _ refl _ n (ap refused_by e)
refusal_gives_zeros (traffic_keys role cipher master) n e = left _ _ _ refl _ n (ap refused_by e)
refusal_gives_zeros (session_id tep secret nonce_a nonce_b) n e = left _ [] _ refl _ n (ap refused_by e)
refusal_gives_zeros (resumption_identifier secret) n e = left _ [] _ refl _ n (ap refused_by e)

-- the reply is refused by the first row that applies
refused_by_rows : (k : Ask) → refused_by (outcome k).reply ≡ refusal (rows k)
unfolding outcome rows number3 number17 not32 above8 refusal unfit_key unfit_nonces long_extract longest is_cipher only keys_of
refused_by_rows (first_secret nonce_a transcript init1 init2 shared) = told _ [] _ refl _
refused_by_rows (next_secret secret) = told _ [] _ refl _
refused_by_rows (master_key secret nonce_a nonce_b) = told _ [] _ refl _
refused_by_rows (next_master master) = told _ [] _ refl _
refused_by_rows (master_key_at secret nonce_a nonce_b generation) = told _ [] _ refl _
refused_by_rows (traffic_keys role cipher master) = told _ _ _ refl _
refused_by_rows (session_id tep secret nonce_a nonce_b) = told _ [] _ refl _
refused_by_rows (resumption_identifier secret) = told _ [] _ refl _

rows_rise : (k : Ask) → Rising 0 (rows k)
unfolding rows
rows_rise k = (omega arith, (omega arith, tt))

-- the reply is `refused n` exactly when n is the least number that applies; so no other number occurs
pub refused_exactly : (k : Ask) (n : ℕ) → ((outcome k).reply ≡ refused n) ↔ Least (applies k) n
unfolding applies
refused_exactly k n =
    let both = first_is_least (rows k) 0 (rows_rise k) n in (
      λ e. both.0 (sym (refused_by_rows k) ∙ ap refused_by e),
      λ l. refused_back (outcome k).reply n (refused_by_rows k ∙ both.1 l),
    )
