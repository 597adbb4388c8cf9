-- Worked examples: each label as HKDF gets it, in the RFC's numbers; and what is refused.
use Rattle.std.specs.Prelude.{ℕ, ◌≡◌, List, [], ◌∷◌, replicate}
use Rattle.std.proofs.Math.Path.{refl}
use Rattle.refusals.specs.Rows.{refusal}
use Rattle.eno.specs.Tep.{is_known}
use Rattle.hkdf_interface.specs.Interface.{hkdf_extract, hkdf_expand}
use Rattle.key_layout.specs.Cipher.{is_cipher, key_length, fixed_length}
use Rattle.key_layout.specs.Schedule as s
use Rattle.key_layout.specs.Schedule.{const_next_key, const_session_id, const_rekey, const_key_a, const_key_b, const_resume, cprf, session_secret, traffic_key}
use Rattle.key_layout.specs.Outcome.{Reply, refused, made, unless, only}
use Rattle.key_layout.specs.Calls.{Ask, next_secret, master_key, next_master, master_key_at, traffic_keys, session_id, resumption_identifier, unfit_key, unfit_nonces, keys_of, outcome}
use Rattle.key_layout.specs.Examples.{Says}

-- the constants 01 to 06, and how many bytes each expansion gives
module _ (ss : List ℕ) where
  pub second_secret : session_secret ss 2 ≡ hkdf_expand (hkdf_expand ss (0x01 ∷ []) 32) (0x01 ∷ []) 32
  unfolding session_secret s.next_secret cprf const_next_key
  second_secret = refl

  pub session_label : s.session_id 0xa3 ss (0x0a ∷ 0x0b ∷ []) ≡ 0xa3 ∷ hkdf_expand ss (0x02 ∷ 0x0a ∷ 0x0b ∷ []) 32
  unfolding s.session_id cprf const_session_id
  session_label = refl

  pub second_master : s.master_key ss (0x0a ∷ []) 1 ≡ hkdf_expand (hkdf_expand ss (0x03 ∷ 0x0a ∷ []) 32) (0x03 ∷ []) 32
  unfolding s.master_key s.first_master s.next_master cprf const_rekey
  second_master = refl

  pub keys_of_a : traffic_key 0 0x0001 ss ≡ hkdf_expand ss (0x04 ∷ []) 28
  unfolding traffic_key cprf const_key_a const_key_b key_length fixed_length
  keys_of_a = refl

  pub keys_of_b : traffic_key 1 0x0010 ss ≡ hkdf_expand ss (0x05 ∷ []) 44
  unfolding traffic_key cprf const_key_a const_key_b key_length fixed_length
  keys_of_b = refl

  pub resume_label : s.resumption_identifier ss ≡ hkdf_expand ss (0x06 ∷ []) 18
  unfolding s.resumption_identifier cprf const_resume
  resume_label = refl

  -- 0102 and 030405 make the key that 010203 and 0405 make
  pub same_joined : outcome (master_key ss (1 ∷ 2 ∷ []) (3 ∷ 4 ∷ 5 ∷ [])) ≡ outcome (master_key ss (1 ∷ 2 ∷ 3 ∷ []) (4 ∷ 5 ∷ []))
  unfolding outcome unfit_nonces
  same_joined = refl

pub first_of_four : s.first_secret (1 ∷ []) (2 ∷ []) (3 ∷ []) (4 ∷ []) (5 ∷ []) ≡ hkdf_extract (1 ∷ []) (2 ∷ 3 ∷ 4 ∷ 5 ∷ [])
unfolding s.first_secret
first_of_four = refl

-- refused or not, call by call
abbrev key : List ℕ
key = replicate 32 0x80

pub table : List (Ask × Reply)
table =
    (next_secret key, made)
    ∷ (next_secret (0 ∷ key), refused 3)
    ∷ (master_key key (replicate 8 1) (replicate 8 2), made)
    ∷ (master_key key (replicate 9 1) [], refused 3)
    ∷ (master_key key [] (replicate 9 1), refused 3)
    ∷ (next_master (replicate 31 0), refused 3)
    ∷ (master_key_at key [] [] 65535, made)
    ∷ (traffic_keys 1 0x0002 key, made)
    ∷ (traffic_keys 2 0x0002 key, refused 3)
    ∷ (traffic_keys 0 0x0000 key, refused 3)
    ∷ (traffic_keys 0 0x0003 key, refused 3)
    ∷ (traffic_keys 0 0x0001 [], refused 3)
    ∷ (session_id 0xa3 key [] [], made)
    ∷ (session_id 0x25 key [] [], refused 3)
    ∷ (session_id 0x23 [] [] [], refused 3)
    ∷ (resumption_identifier key, made)
    ∷ (resumption_identifier [], refused 3)
    ∷ []

pub table_holds : Says table
unfolding table outcome unless only keys_of refusal unfit_key unfit_nonces is_cipher is_known
table_holds = (refl, (refl, (refl, (refl, (refl, (refl, (refl, (refl, (refl, (refl, (refl, (refl, (refl, (refl, (refl, (refl, (refl, tt)))))))))))))))))
