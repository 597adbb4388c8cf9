-- The rows of the papers' tables that calls on the key schedule meet, by number and in the tables' words; the calls are defined without them.
use Rattle.std.specs.Prelude.{ℕ, ◌+◌, ◌-◌, ◌%◌, ◌^◌, List, [], ◌∷◌, Bool, false, not, ◌||◌, ltb, eqb, length}
use Rattle.refusals.specs.Rows.{marked}
use Rattle.eno.specs.Tep.{is_known}
use Rattle.key_layout.specs.Calls.{Ask, first_secret, next_secret, master_key, next_master, master_key_at, traffic_keys, session_id, resumption_identifier}

-- of another length
unfoldable pub not32 : List ℕ → Bool
not32 s = not (eqb (length s) 32)

unfoldable pub above8 : List ℕ → Bool
above8 s = ltb 8 (length s)

-- 3: secret, master key or Init nonce not of 32 bytes; resumption nonce above 8; role not 0 or 1; cipher unknown; TEP unknown
unfoldable pub number3 : Ask → Bool
number3 (first_secret nonce_a transcript init1 init2 shared) = not32 nonce_a
number3 (next_secret secret) = not32 secret
number3 (master_key secret nonce_a nonce_b) = not32 secret || (above8 nonce_a || above8 nonce_b)
number3 (next_master master) = not32 master
number3 (master_key_at secret nonce_a nonce_b generation) = not32 secret || (above8 nonce_a || above8 nonce_b)
number3 (traffic_keys role cipher master) = ltb 1 role || not (eqb cipher 0x0001 || eqb cipher 0x0002 || eqb cipher 0x0010) || not32 master
number3 (session_id tep secret nonce_a nonce_b) = not (is_known (tep % 128)) || (not32 secret || (above8 nonce_a || above8 nonce_b))
number3 (resumption_identifier secret) = not32 secret

-- 17: more than 2^61 - 1 bytes are hashed, HMAC's block counted
unfoldable pub number17 : Ask → Bool
number17 (first_secret nonce_a transcript init1 init2 shared) = ltb (2 ^ 61 - 1) (64 + (length transcript + (length init1 + (length init2 + length shared))))
number17 (next_secret secret) = false
number17 (master_key secret nonce_a nonce_b) = false
number17 (next_master master) = false
number17 (master_key_at secret nonce_a nonce_b generation) = false
number17 (traffic_keys role cipher master) = false
number17 (session_id tep secret nonce_a nonce_b) = false
number17 (resumption_identifier secret) = false

-- the rows, by number
unfoldable pub rows : Ask → List (Bool × ℕ)
rows k = (number3 k, 3) ∷ (number17 k, 17) ∷ []

-- a row's number applies
unfoldable pub applies : Ask → ℕ → Bool
applies k n = marked n (rows k)
