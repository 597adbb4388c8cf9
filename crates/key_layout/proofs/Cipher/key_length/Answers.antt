-- `Cipher::key_length` meets its contract.
use Rattle.key_layout.specs.Cipher.{key_length}
use Rattle.key_layout.proofs.Cipher.key_length.Goals as goal

pub returns-in-Aes128Gcm : goal.returns-in-Aes128Gcm
unfolding key_length
returns-in-Aes128Gcm c = rw c.in-Aes128Gcm.is

pub returns-in-Aes256Gcm : goal.returns-in-Aes256Gcm
unfolding key_length
returns-in-Aes256Gcm c = rw c.in-Aes256Gcm.is

pub returns-in-Chacha20Poly1305 : goal.returns-in-Chacha20Poly1305
unfolding key_length
returns-in-Chacha20Poly1305 c = rw c.in-Chacha20Poly1305.is
