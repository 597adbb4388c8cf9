-- The MAC with a key's block (RFC 2104, 2, without the making of the block).
use Rattle.std.specs.Prelude.{ℕ, ◌+◌, List, [], ◌∷◌, ◌++◌, length, replicate}
use Rattle.refusals.specs.Rows.{refusal}
use Rattle.hash_layout.specs.Sha256.{sha256}
use Rattle.hash_layout.specs.Hmac.{xor_all}
use Rattle.hash_layout.specs.Outcome.{Outcome, unless}
use Rattle.hash_layout.specs.Calls.{too_long, digest}

unfoldable pub keyed : List ℕ → List ℕ → List ℕ
keyed b text = sha256 (xor_all 0x5c b ++ sha256 (xor_all 0x36 b ++ text))

-- 17 where the inner hash is over too many bytes
unfoldable pub keyed_outcome : List ℕ → List ℕ → Outcome
keyed_outcome b text = unless (refusal ((too_long (64 + length text), 17) ∷ [])) (replicate 32 0) [] (digest (keyed b text))
