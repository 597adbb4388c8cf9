-- The calls on a hash, each with its refusals in their order and what it gives otherwise.
use Rattle.std.specs.Prelude.{ℕ, ◌+◌, ◌-◌, ◌^◌, List, [], ◌∷◌, Bool, not, ◌&&◌, ◌||◌, ltb, eqb, length, replicate}
use Rattle.wire.specs.Bytes.{pasted}
use Rattle.refusals.specs.Rows.{refusal}
use Rattle.hash_layout.specs.Sha256.{sha256}
use Rattle.hash_layout.specs.Hmac.{hmac}
use Rattle.hash_layout.specs.Hkdf.{hkdf_extract, hkdf_expand}
use Rattle.hash_layout.specs.Outcome.{Outcome, made, written, unless}

-- a call with its arguments; `lent` is the lent buffer
pub data Ask : Type 0 where
  hash : (message : List ℕ) → Ask
  mac : (key message : List ℕ) → Ask
  extract : (salt ikm : List ℕ) → Ask
  expand : (key info : List ℕ) (size : ℕ) (lent : List ℕ) → Ask

-- the most bytes that are hashed, 2^61 - 1: FIPS 180-4 takes messages of fewer than 2^64 bits
unfoldable pub longest : ℕ
longest = 2 ^ 61 - 1

unfoldable pub too_long : ℕ → Bool
too_long n = ltb longest n

-- a MAC hashes a key that is above a block, and the text behind a block
unfoldable pub mac_too_long : (key text : ℕ) → Bool
mac_too_long key text = too_long key || too_long (64 + text)

-- 255 hash lengths
unfoldable pub most_expanded : ℕ
most_expanded = 8160

-- an expansion hashes a block, info and the counter; past 32 bytes the T before them too
unfoldable pub expand_too_long : (info size : ℕ) → Bool
expand_too_long info size = ltb most_expanded size || (ltb 0 size && too_long (65 + info) || ltb 32 size && too_long (97 + info))

unfoldable pub digest : List ℕ → Outcome
digest d = record { reply = made; bytes = d; buffer = [] }

unfoldable pub expanded : List ℕ → List ℕ → Outcome
expanded d s = record { reply = written (length d); bytes = []; buffer = pasted s 0 d }

unfoldable pub outcome : Ask → Outcome
outcome (hash m) = unless (refusal ((too_long (length m), 17) ∷ [])) (replicate 32 0) [] (digest (sha256 m))
outcome (mac key m) = unless (refusal ((mac_too_long (length key) (length m), 17) ∷ [])) (replicate 32 0) [] (digest (hmac key m))
outcome (extract salt ikm) = unless (refusal ((mac_too_long (length salt) (length ikm), 17) ∷ [])) (replicate 32 0) [] (digest (hkdf_extract salt ikm))
outcome (expand key info n s) =
    unless (refusal ((not (eqb (length key) 32), 3) ∷ (ltb (length s) n, 5) ∷ (expand_too_long (length info) n, 17) ∷ [])) [] s (expanded (hkdf_expand key info n) s)
