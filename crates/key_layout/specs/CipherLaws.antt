-- What a number says of its cipher. Assumes nothing.
use Rattle.std.specs.Prelude.{ℕ, ◌≡◌, Some, is_some}
use Rattle.key_layout.specs.Cipher.{is_cipher, key_length, cipher_number, cipher_of}
use Rattle.key_layout.specs.declared.Cipher.{Cipher}

-- a number has a cipher exactly if it is known, and the cipher has that number and the number's key length
pub record Tells (c : ℕ) : Type 0 where
  pub known : is_some (cipher_of c) ≡ is_cipher c
  pub number : (x : Cipher) → cipher_of c ≡ Some x → cipher_number x ≡ c
  pub length : (x : Cipher) → cipher_of c ≡ Some x → key_length (cipher_number x) ≡ key_length c
