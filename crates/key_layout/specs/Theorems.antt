-- What the schedule promises: its chains, the lengths of what it gives, and that 17 is a first secret's alone. Assumes nothing.
use Rattle.key_layout.specs.Calls.{Ask, first_secret, next_secret, master_key, next_master, master_key_at, traffic_keys, session_id, resumption_identifier}

-- 17 is told of a first secret alone
abbrev pub IsFirst : Ask → Type 0
IsFirst (first_secret nonce_a transcript init1 init2 shared) = Unit {0}
IsFirst (next_secret secret) = ⊥
IsFirst (master_key secret nonce_a nonce_b) = ⊥
IsFirst (next_master master) = ⊥
IsFirst (master_key_at secret nonce_a nonce_b generation) = ⊥
IsFirst (traffic_keys role cipher master) = ⊥
IsFirst (session_id tep secret nonce_a nonce_b) = ⊥
IsFirst (resumption_identifier secret) = ⊥
