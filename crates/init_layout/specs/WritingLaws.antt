-- What it means that TEP, nonce and key fit, and a list of ciphers. Assumes nothing.
use Rattle.std.specs.Prelude.{ℕ, ◌≤◌, ◌≡◌, List, false, ◌&&◌, length}
use Rattle.eno.specs.Tep.{key_length}
use Rattle.init_layout.specs.Layout.{is_void}

-- the parts that fit
pub record Parts (t : ℕ) (nonce key : List ℕ) : Type 0 where
  pub has_keys : key_length t ≡ 0 → ⊥
  pub nonce_long : length nonce ≡ 32
  pub key_long : length key ≡ key_length t

-- the list that fits
pub record Listed (ciphers : List ℕ) : Type 0 where
  pub some : 1 ≤ length ciphers
  pub few : length ciphers ≤ 255
  pub named : is_void ciphers ≡ false
