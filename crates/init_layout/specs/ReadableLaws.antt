-- Readable bytes are read as the layout says, whatever follows; and bytes that are read whole are readable. Assumes nothing.
use Rattle.std.specs.Prelude.{ℕ, ◌+◌, ◌*◌, ◌-◌, ◌≤◌, ◌<◌, ◌^◌, ◌≡◌, List, ◌∷◌, ◌++◌}
use Rattle.std.proofs.Common.{◌∙◌}
use Rattle.std.proofs.Math.ListN.{length}
use Rattle.wire.specs.Bytes.{bytes_from}
use Rattle.init_layout.specs.Layout.{Init, Message, length_of}
use Rattle.init_layout.specs.Reading.{length_at, count_at, ciphers_from, nonce_from, ciphers_at}
use Rattle.init_layout.specs.StandingOfLaws.{WholeFor}

-- the values of a readable message stand where the reader looks
pub record Found (i : Init) (keys : ℕ) (m : Message) (p : List ℕ) : Type 0 where
  pub is_whole : WholeFor i keys p
  pub is_length : length_at p ≡ length_of i m
  pub is_count : count_at i p ≡ length m.ciphers
  pub is_ciphers : ciphers_at (count_at i p) p (ciphers_from i) ≡ m.ciphers
  pub is_nonce : bytes_from 32 p (nonce_from i (count_at i p)) ≡ m.nonce
  pub is_key : bytes_from keys p (nonce_from i (count_at i p) + 32) ≡ m.key
