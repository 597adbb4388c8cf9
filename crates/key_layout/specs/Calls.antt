-- The calls on the key schedule, each with its refusals in their order and what it gives otherwise.
use Rattle.std.specs.Prelude.{ℕ, ◌+◌, ◌-◌, ◌%◌, List, [], ◌∷◌, ◌++◌, Bool, not, ◌||◌, ltb, eqb, length, replicate}
use Rattle.refusals.specs.Rows.{refusal}
use Rattle.eno.specs.Tep.{is_known}
use Rattle.hkdf_interface.specs.Interface.{longest}
use Rattle.key_layout.specs.Cipher.{is_cipher, key_length, fixed_length}
use Rattle.key_layout.specs.Schedule as s
use Rattle.key_layout.specs.Outcome.{Outcome, made, only, unless}

-- a call with its arguments; the nonces are the resumption nonces of the original hosts A and B, none on a fresh connection
pub data Ask : Type 0 where
  first_secret : (nonce_a transcript init1 init2 shared : List ℕ) → Ask
  next_secret : (secret : List ℕ) → Ask
  master_key : (secret nonce_a nonce_b : List ℕ) → Ask
  next_master : (master : List ℕ) → Ask
  master_key_at : (secret nonce_a nonce_b : List ℕ) (generation : ℕ) → Ask
  traffic_keys : (role cipher : ℕ) (master : List ℕ) → Ask
  session_id : (tep : ℕ) (secret nonce_a nonce_b : List ℕ) → Ask
  resumption_identifier : (secret : List ℕ) → Ask

-- a secret or master key has 32 bytes
unfoldable pub unfit_key : List ℕ → Bool
unfit_key key = not (eqb (length key) 32)

-- a resumption nonce has at most 8
unfoldable pub unfit_nonces : (nonce_a nonce_b : List ℕ) → Bool
unfit_nonces nonce_a nonce_b = ltb 8 (length nonce_a) || ltb 8 (length nonce_b)

-- host A's Init nonce has 32 bytes; what is extracted is hashed behind a block of 64
unfoldable pub long_extract : (transcript init1 init2 shared : List ℕ) → Bool
long_extract transcript init1 init2 shared = ltb longest (64 + (length transcript + (length init1 + (length init2 + length shared))))

-- CPRF with a constant and the nonces, 32 bytes
unfoldable pub labelled : (constant : ℕ) (key nonce_a nonce_b : List ℕ) → Outcome
labelled constant key nonce_a nonce_b =
    unless (refusal ((unfit_key key || unfit_nonces nonce_a nonce_b, 3) ∷ [])) (replicate 32 0) [] (only (s.cprf key (constant ∷ (nonce_a ++ nonce_b)) 32))

-- a key in 32 bytes, zeros behind it
unfoldable pub in_key : List ℕ → List ℕ
in_key k = k ++ replicate (32 - length k) 0

unfoldable pub keys_of : (role cipher : ℕ) (master : List ℕ) → Outcome
keys_of role cipher master =
    record { reply = made; bytes = in_key (s.aead_key role cipher master); size = key_length cipher; fixed = s.fixed_nonce role cipher master }

unfoldable pub outcome : Ask → Outcome
outcome (first_secret nonce_a transcript init1 init2 shared) =
    unless (refusal ((unfit_key nonce_a, 3) ∷ (long_extract transcript init1 init2 shared, 17) ∷ [])) (replicate 32 0) [] (only (s.first_secret nonce_a transcript init1 init2 shared))
outcome (next_secret secret) = unless (refusal ((unfit_key secret, 3) ∷ [])) (replicate 32 0) [] (only (s.next_secret secret))
outcome (master_key secret nonce_a nonce_b) =
    unless (refusal ((unfit_key secret || unfit_nonces nonce_a nonce_b, 3) ∷ [])) (replicate 32 0) [] (only (s.master_key secret (nonce_a ++ nonce_b) 0))
outcome (next_master master) = unless (refusal ((unfit_key master, 3) ∷ [])) (replicate 32 0) [] (only (s.next_master master))
outcome (master_key_at secret nonce_a nonce_b generation) =
    unless (refusal ((unfit_key secret || unfit_nonces nonce_a nonce_b, 3) ∷ [])) (replicate 32 0) [] (only (s.master_key secret (nonce_a ++ nonce_b) generation))
outcome (traffic_keys role cipher master) =
    unless (refusal ((ltb 1 role || not (is_cipher cipher) || unfit_key master, 3) ∷ [])) (replicate 32 0) (replicate fixed_length 0) (keys_of role cipher master)
outcome (session_id tep secret nonce_a nonce_b) =
    unless (refusal ((not (is_known (tep % 128)) || (unfit_key secret || unfit_nonces nonce_a nonce_b), 3) ∷ [])) (replicate 33 0) [] (only (s.session_id tep secret (nonce_a ++ nonce_b)))
outcome (resumption_identifier secret) = unless (refusal ((unfit_key secret, 3) ∷ [])) (replicate 18 0) [] (only (s.resumption_identifier secret))
