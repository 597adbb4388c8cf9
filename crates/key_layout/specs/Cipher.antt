-- The AEAD ciphers of RFC 8548 (section 5), and the lengths that belong to each.
use Rattle.std.specs.Prelude.{ℕ, Bool, cond, ◌||◌, eqb, Option, Some, None}
use Rattle.key_layout.specs.declared.Cipher.{Cipher}
use Rattle.key_layout.specs.declared.Cipher.TheVariants as v

-- 0001 (AES-128-GCM), 0002 (AES-256-GCM), 0010 (ChaCha20-Poly1305)
unfoldable pub is_cipher : ℕ → Bool
is_cipher c = eqb c 0x0001 || eqb c 0x0002 || eqb c 0x0010

-- key 16 for 0001, 32 for 0002 and 0010
unfoldable pub key_length : ℕ → ℕ
key_length c = cond (eqb c 0x0001) 16 (cond (eqb c 0x0002 || eqb c 0x0010) 32 0)

-- the fixed nonce has 12 bytes
unfoldable pub fixed_length : ℕ
fixed_length = 12

-- a cipher's number on the wire
abbrev pub cipher_number : Cipher → ℕ
cipher_number v.Aes128Gcm = 0x0001
cipher_number v.Aes256Gcm = 0x0002
cipher_number v.Chacha20Poly1305 = 0x0010

-- the cipher with a number, none where it is not known
unfoldable pub cipher_of : ℕ → Option Cipher
cipher_of c = cond (eqb c 0x0001) (Some v.Aes128Gcm) (cond (eqb c 0x0002) (Some v.Aes256Gcm) (cond (eqb c 0x0010) (Some v.Chacha20Poly1305) None))
