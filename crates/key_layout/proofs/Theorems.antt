-- What the schedule promises: its chains, the lengths of what it gives, and that 17 is a first secret's alone. Assumes nothing.
use Rattle.std.specs.Prelude.{ℕ, zero, suc, ◌+◌, ◌≡◌, refl, List, [], ◌∷◌, ◌++◌, Bool, true, false, length, drop}
use Rattle.std.proofs.Common.{sym, ap, true≢false, arith, length-drop}
use Rattle.std.proofs.Math.ListN.{take-append-drop}
use Rattle.std.proofs.Math.Seq.{length-take-le}
use Rattle.refusals.specs.Rows.{marked}
use Rattle.hkdf_interface.specs.Interface.{length_extract, length_expand}
use Rattle.key_layout.specs.Cipher.{key_length, fixed_length}
use Rattle.key_layout.specs.Schedule as s
use Rattle.key_layout.specs.Schedule.{cprf, session_secret, aead_key, fixed_nonce, traffic_key}
use Rattle.key_layout.specs.Outcome.{refused}
use Rattle.key_layout.specs.Calls.{Ask, first_secret, next_secret, master_key, next_master, master_key_at, traffic_keys, session_id, resumption_identifier, outcome}
use Rattle.key_layout.specs.Numbered.{number17, rows, applies}
use Rattle.key_layout.proofs.Refusals.{refused_exactly}
use Rattle.key_layout.specs.Theorems.{IsFirst}

-- the secrets are a chain, and so are the master keys: no nonce after generation 0
pub secrets_chain : (prk : List ℕ) (i : ℕ) → session_secret prk (suc i) ≡ s.next_secret (session_secret prk i)
unfolding session_secret
secrets_chain prk i = refl

pub keys_by_generation : (ss sn : List ℕ) (j : ℕ) → s.master_key ss sn (suc j) ≡ s.next_master (s.master_key ss sn j)
unfolding s.master_key
keys_by_generation ss sn j = refl

-- the bounds of the two nonces do not show: only what stands behind each other counts
pub nonces_joined : (ss a b c : List ℕ) (j : ℕ) → a ++ b ≡ c → s.master_key ss (a ++ b) j ≡ s.master_key ss c j
nonces_joined ss a b c j e = ap (λ sn. s.master_key ss sn j) e

-- lengths
pub first_32 : (nonce_a transcript init1 init2 shared : List ℕ) → length (s.first_secret nonce_a transcript init1 init2 shared) ≡ 32
unfolding s.first_secret
first_32 nonce_a transcript init1 init2 shared = length_extract _ _

pub next_32 : (ss : List ℕ) → length (s.next_secret ss) ≡ 32
unfolding s.next_secret cprf
next_32 ss = length_expand _ _ 32

pub master_32 : (ss sn : List ℕ) (j : ℕ) → length (s.master_key ss sn j) ≡ 32
unfolding s.master_key s.first_master s.next_master cprf
master_32 ss sn zero = length_expand _ _ 32
master_32 ss sn (suc j) = length_expand _ _ 32

pub next_master_32 : (mk : List ℕ) → length (s.next_master mk) ≡ 32
unfolding s.next_master cprf
next_master_32 mk = length_expand _ _ 32

pub resume_18 : (ss : List ℕ) → length (s.resumption_identifier ss) ≡ 18
unfolding s.resumption_identifier cprf
resume_18 ss = length_expand _ _ 18

-- a session ID begins with the TEP byte, and has 33 bytes
pub session_begins : (byte : ℕ) (ss sn : List ℕ) → s.session_id byte ss sn ≡ byte ∷ drop 1 (s.session_id byte ss sn)
unfolding s.session_id
session_begins byte ss sn = refl

pub session_33 : (byte : ℕ) (ss sn : List ℕ) → length (s.session_id byte ss sn) ≡ 33
unfolding s.session_id cprf
session_33 byte ss sn = ap suc (length_expand _ _ 32)

module _ (role cipher : ℕ) (mk : List ℕ) where
  traffic_length : length (traffic_key role cipher mk) ≡ key_length cipher + 12
  unfolding traffic_key cprf fixed_length
  traffic_length = length_expand _ _ (key_length cipher + 12)

  -- the key, then the fixed nonce
  pub key_and_nonce : aead_key role cipher mk ++ fixed_nonce role cipher mk ≡ traffic_key role cipher mk
  unfolding aead_key fixed_nonce
  key_and_nonce = take-append-drop (key_length cipher) (traffic_key role cipher mk)

  pub key_length_lem : length (aead_key role cipher mk) ≡ key_length cipher
  unfolding aead_key
  key_length_lem = length-take-le (key_length cipher) (traffic_key role cipher mk) (omega (arith, traffic_length))

  pub nonce_12 : length (fixed_nonce role cipher mk) ≡ 12
  unfolding fixed_nonce
  nonce_12 = rw (length-drop (key_length cipher) (traffic_key role cipher mk), traffic_length) (omega arith)

-- 16 bytes for 0001, 32 for 0002 and 0010
pub key_lengths : (key_length 0x0001 ≡ 16) × (key_length 0x0002 ≡ 32) × (key_length 0x0010 ≡ 32)
unfolding key_length
key_lengths = (refl, refl, refl)

only_three : (b : Bool) → marked 17 ((b, 3) ∷ (false, 17) ∷ []) ≡ true → ⊥
unfolding marked
only_three true e = true≢false (sym e)
only_three false e = true≢false (sym e)

pub seventeen_first : (k : Ask) → (outcome k).reply ≡ refused 17 → IsFirst k
unfolding applies rows number17
seventeen_first (first_secret nonce_a transcript init1 init2 shared) e = tt
seventeen_first (next_secret secret) e = only_three _ ((refused_exactly (next_secret secret) 17).0 e).this
seventeen_first (master_key secret nonce_a nonce_b) e = only_three _ ((refused_exactly (master_key secret nonce_a nonce_b) 17).0 e).this
seventeen_first (next_master master) e = only_three _ ((refused_exactly (next_master master) 17).0 e).this
seventeen_first (master_key_at secret nonce_a nonce_b generation) e = only_three _ ((refused_exactly (master_key_at secret nonce_a nonce_b generation) 17).0 e).this
seventeen_first (traffic_keys role cipher master) e = only_three _ ((refused_exactly (traffic_keys role cipher master) 17).0 e).this
seventeen_first (session_id tep secret nonce_a nonce_b) e = only_three _ ((refused_exactly (session_id tep secret nonce_a nonce_b) 17).0 e).this
seventeen_first (resumption_identifier secret) e = only_three _ ((refused_exactly (resumption_identifier secret) 17).0 e).this
