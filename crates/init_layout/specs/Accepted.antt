-- What an accepted Init1 or Init2 is, in document 01's words: a reader gives values exactly when the bytes at hand are a message with these values. Assumes nothing.
use Rattle.std.specs.Prelude.{ℕ, ◌+◌, ◌-◌, ◌≤◌, List, [], ◌∷◌, ◌++◌, ◌&&◌, ◌||◌, ◌⊎◌, ◌↔◌}
use Rattle.std.proofs.Math.Path.{◌≡◌}
use Rattle.std.proofs.Common.{◌∙◌}
use Rattle.std.proofs.Math.Bool.{true}
use Rattle.std.proofs.Math.ListN.{length}
use Rattle.wire.specs.Number.{big_endian}
use Rattle.init_layout.specs.Layout.{cipher_bytes, Ciphers}
use Rattle.init_layout.specs.Reading.{zeros}
use Rattle.init_layout.specs.declared.Enabled.{Enabled}

-- public keys have 32 bytes for TEP 23 and 56 for 24
abbrev pub KeyOf : ℕ → ℕ → Type 0
KeyOf t n = ((t ≡ 0x23) × (n ≡ 32)) ⊎ ((t ≡ 0x24) × (n ≡ 56))

-- a cipher that is enabled: 0001 and 0002 (AES-GCM), 0010 (ChaCha20-Poly1305)
abbrev pub Enables : Enabled → ℕ → Type 0
Enables e c = ((c ≡ 0x0001) × (e.aes128 ≡ true)) ⊎ (((c ≡ 0x0002) × (e.aes256 ≡ true)) ⊎ ((c ≡ 0x0010) × (e.chacha20 ≡ true)))

abbrev pub NoneEnabled : Enabled → List ℕ → Type 0
NoneEnabled e [] = Unit {0}
NoneEnabled e (c ∷ l) = (Enables e c → ⊥) × NoneEnabled e l

-- the first of a list that is enabled
pub record FirstEnabled (e : Enabled) (c : ℕ) (l : List ℕ) : Type 0 where
  pub before : List ℕ
  pub after : List ℕ
  pub place : l ≡ before ++ (c ∷ after)
  pub enabled : Enables e c
  pub none_before : NoneEnabled e before

-- one of a list
pub record In (c : ℕ) (l : List ℕ) : Type 0 where
  pub before : List ℕ
  pub after : List ℕ
  pub place : l ≡ before ++ (c ∷ after)

-- no cipher of a list is 0000
abbrev pub NoneVoid : List ℕ → Type 0
NoneVoid [] = Unit {0}
NoneVoid (c ∷ l) = (c ≡ 0x0000 → ⊥) × NoneVoid l

-- Init1: magic, 4-byte length, 1-byte cipher count, 2-byte ciphers, nonce, public key, later bytes
abbrev pub init1_with : ℕ → ℕ → List ℕ → List ℕ → List ℕ → List ℕ → List ℕ
init1_with n count ciphers nonce key ignored = 0x15 ∷ 0x10 ∷ 0x1a ∷ 0x0e ∷ (big_endian 4 n ++ (count ∷ (cipher_bytes ciphers ++ (nonce ++ (key ++ ignored)))))

-- Init2: magic, length, one cipher, nonce, public key, later bytes
abbrev pub init2_with : ℕ → ℕ → List ℕ → List ℕ → List ℕ → List ℕ
init2_with n cipher nonce key ignored = 0x09 ∷ 0x71 ∷ 0x05 ∷ 0xe0 ∷ (big_endian 4 n ++ (big_endian 2 cipher ++ (nonce ++ (key ++ ignored))))

-- the bytes p are an Init1 and a rest, and B, with these ciphers enabled, takes from it a cipher, the count of ciphers, the length, the nonce and the key with zeros up to 56 bytes
pub record Init1Taken (t : ℕ) (enabled : Enabled) (p : List ℕ) (cipher count n : ℕ) (nonce padded-key : List ℕ) : Type 0 where
  pub ciphers : List ℕ
  pub key : List ℕ
  pub ignored : List ℕ
  pub message : List ℕ
  pub rest : List ℕ
  pub at_hand : message ++ rest ≡ p
  pub layout : message ≡ init1_with n count ciphers nonce key ignored
  pub length_is : n ≡ length message
  pub short : n ≤ 4096
  pub count_is : count ≡ length ciphers
  pub count_fits : (1 ≤ count) × (count ≤ 255)
  pub each : Ciphers ciphers
  pub named : NoneVoid ciphers
  pub nonce_long : length nonce ≡ 32
  pub key_long : KeyOf t (length key)
  pub key_given : padded-key ≡ key ++ zeros (56 - length key)
  pub first : FirstEnabled enabled cipher ciphers

-- the bytes p are an Init2 and a rest, and A, whose Init1 had the ciphers `own`, takes from it the cipher, the length, the nonce and the key
pub record Init2Taken (t : ℕ) (own p : List ℕ) (cipher count n : ℕ) (nonce padded-key : List ℕ) : Type 0 where
  pub key : List ℕ
  pub ignored : List ℕ
  pub message : List ℕ
  pub rest : List ℕ
  pub at_hand : message ++ rest ≡ p
  pub layout : message ≡ init2_with n cipher nonce key ignored
  pub length_is : n ≡ length message
  pub short : n ≤ 4096
  pub count_is : count ≡ 1
  pub each : Ciphers (cipher ∷ [])
  pub named : cipher ≡ 0x0000 → ⊥
  pub nonce_long : length nonce ≡ 32
  pub key_long : KeyOf t (length key)
  pub key_given : padded-key ≡ key ++ zeros (56 - length key)
  pub own_fits : length own ≤ 255
  pub sent : In cipher own
