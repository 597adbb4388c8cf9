-- The key schedule of RFC 8548 (3.3 to 3.5, 4.3) over what HKDF promises: the Collision-resistant Pseudo-Random Function is its expansion.
use Rattle.std.specs.Prelude.{ℕ, zero, suc, ◌+◌, List, [], ◌∷◌, ◌++◌, cond, eqb, take, drop}
use Rattle.hkdf_interface.specs.Interface.{hkdf_extract, hkdf_expand}
use Rattle.key_layout.specs.Cipher.{key_length, fixed_length}

-- the constants of 4.3, one byte each
unfoldable pub const_next_key : ℕ
const_next_key = 0x01

unfoldable pub const_session_id : ℕ
const_session_id = 0x02

unfoldable pub const_rekey : ℕ
const_rekey = 0x03

unfoldable pub const_key_a : ℕ
const_key_a = 0x04

unfoldable pub const_key_b : ℕ
const_key_b = 0x05

unfoldable pub const_resume : ℕ
const_resume = 0x06

-- CPRF(key, label, n)
unfoldable pub cprf : (key label : List ℕ) (n : ℕ) → List ℕ
cprf key label n = hkdf_expand key label n

-- 3.3: ss[0] = PRK = Extract(N_A, transcript | Init1 | Init2 | ES)
unfoldable pub first_secret : (nonce_a transcript init1 init2 shared : List ℕ) → List ℕ
first_secret nonce_a transcript init1 init2 shared = hkdf_extract nonce_a (transcript ++ (init1 ++ (init2 ++ shared)))

-- ss[i] = CPRF(ss[i-1], CONST_NEXTK, K_LEN)
unfoldable pub next_secret : List ℕ → List ℕ
next_secret ss = cprf ss (const_next_key ∷ []) 32

unfoldable pub session_secret : List ℕ → ℕ → List ℕ
session_secret prk zero = prk
session_secret prk (suc i) = next_secret (session_secret prk i)

-- mk[0] = CPRF(ss, CONST_REKEY | sn, K_LEN), where sn is the original host A's resumption nonce, then the original host B's
unfoldable pub first_master : (ss sn : List ℕ) → List ℕ
first_master ss sn = cprf ss (const_rekey ∷ sn) 32

-- mk[j] = CPRF(mk[j-1], CONST_REKEY, K_LEN)
unfoldable pub next_master : List ℕ → List ℕ
next_master mk = cprf mk (const_rekey ∷ []) 32

unfoldable pub master_key : (ss sn : List ℕ) (generation : ℕ) → List ℕ
master_key ss sn zero = first_master ss sn
master_key ss sn (suc j) = next_master (master_key ss sn j)

-- what the original host A sends by k_ab, with CONST_KEY_A, and what B sends by k_ba, with CONST_KEY_B: key, then fixed nonce
unfoldable pub traffic_key : (role cipher : ℕ) → List ℕ → List ℕ
traffic_key role cipher mk = cprf mk (cond (eqb role 0) const_key_a const_key_b ∷ []) (key_length cipher + fixed_length)

unfoldable pub aead_key : (role cipher : ℕ) → List ℕ → List ℕ
aead_key role cipher mk = take (key_length cipher) (traffic_key role cipher mk)

unfoldable pub fixed_nonce : (role cipher : ℕ) → List ℕ → List ℕ
fixed_nonce role cipher mk = drop (key_length cipher) (traffic_key role cipher mk)

-- 3.4: host B's TEP byte with its v, then CPRF(ss, CONST_SESSID | sn, K_LEN)
unfoldable pub session_id : (byte : ℕ) (ss sn : List ℕ) → List ℕ
session_id byte ss sn = byte ∷ cprf ss (const_session_id ∷ sn) 32

-- 3.5: CPRF(ss, CONST_RESUME, 18)
unfoldable pub resumption_identifier : List ℕ → List ℕ
resumption_identifier ss = cprf ss (const_resume ∷ []) 18
