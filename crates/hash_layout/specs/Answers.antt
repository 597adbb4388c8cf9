-- The answers of the calls in the papers' numbers and values; each view loses nothing.
use Rattle.std.specs.Prelude.{ℕ, List, [], Result, Ok, Err, replicate}
use Rattle.hash_layout.specs.Outcome.{Reply, refused, made, Outcome}
use Rattle.hash_layout.specs.declared.TooLong.{TooLong}

-- 17 for a hash over more than 2^61 - 1 bytes
abbrev pub hash_reply : Result (List ℕ) TooLong → Reply
hash_reply (Ok d) = made
hash_reply (Err e) = refused 17

-- zeros beside a refusal
abbrev pub hash_bytes : Result (List ℕ) TooLong → List ℕ
hash_bytes (Ok d) = d
hash_bytes (Err e) = replicate 32 0

abbrev pub hash_told : Result (List ℕ) TooLong → Outcome
hash_told a = record { reply = hash_reply a; bytes = hash_bytes a; buffer = [] }
