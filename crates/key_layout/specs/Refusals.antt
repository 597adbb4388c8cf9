-- Demand 1 for the key schedule: a reply is `refused n` exactly when n is the least number that applies, and then all bytes are zeros. Assumes nothing.
use Rattle.std.specs.Prelude.{ℕ, replicate}
use Rattle.std.proofs.Math.Option.{Option, none, some}
use Rattle.key_layout.specs.Outcome.{Reply, refused, made, Outcome}
use Rattle.key_layout.specs.Calls.{Ask, first_secret, next_secret, master_key, next_master, master_key_at, traffic_keys, session_id, resumption_identifier}

-- the number of a refusal
abbrev pub refused_by : Reply → Option ℕ
refused_by (refused n) = some n
refused_by made = none

-- how many bytes a call gives, and how many of a fixed nonce
unfoldable pub bytes_in : Ask → ℕ
bytes_in (first_secret nonce_a transcript init1 init2 shared) = 32
bytes_in (next_secret secret) = 32
bytes_in (master_key secret nonce_a nonce_b) = 32
bytes_in (next_master master) = 32
bytes_in (master_key_at secret nonce_a nonce_b generation) = 32
bytes_in (traffic_keys role cipher master) = 32
bytes_in (session_id tep secret nonce_a nonce_b) = 33
bytes_in (resumption_identifier secret) = 18

unfoldable pub fixed_in : Ask → ℕ
fixed_in (first_secret nonce_a transcript init1 init2 shared) = 0
fixed_in (next_secret secret) = 0
fixed_in (master_key secret nonce_a nonce_b) = 0
fixed_in (next_master master) = 0
fixed_in (master_key_at secret nonce_a nonce_b generation) = 0
fixed_in (traffic_keys role cipher master) = 12
fixed_in (session_id tep secret nonce_a nonce_b) = 0
fixed_in (resumption_identifier secret) = 0

-- zeros beside a number
abbrev pub zeros : Ask → ℕ → Outcome
zeros k n = record { reply = refused n; bytes = replicate (bytes_in k) 0; size = 0; fixed = replicate (fixed_in k) 0 }
