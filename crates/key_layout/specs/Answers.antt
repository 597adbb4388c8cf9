-- The answers of the calls in the papers' numbers and values; each view loses nothing.
use Rattle.std.specs.Prelude.{ℕ, List, [], Result, Ok, Err, replicate}
use Rattle.key_layout.specs.Outcome.{Reply, refused, made, Outcome}
use Rattle.key_layout.specs.declared.KeyRefusal.{KeyRefusal}
use Rattle.key_layout.specs.declared.KeyRefusal.TheVariants as k
use Rattle.key_layout.specs.declared.TrafficKeys.{TrafficKeys}

-- 3 where the arguments do not fit, 17 where too much is hashed
abbrev pub refusal_number : KeyRefusal → ℕ
refusal_number k.Unfit = 3
refusal_number k.TooLong = 17

abbrev pub reply_of : {T : Type 0} → Result T KeyRefusal → Reply
reply_of (Ok d) = made
reply_of (Err e) = refused (refusal_number e)

-- bytes, as many zeros beside a refusal
abbrev pub bytes_told : ℕ → Result (List ℕ) KeyRefusal → Outcome
bytes_told n (Ok d) = record { reply = made; bytes = d; size = 0; fixed = [] }
bytes_told n (Err e) = record { reply = refused (refusal_number e); bytes = replicate n 0; size = 0; fixed = [] }

abbrev pub key_told : Result (List ℕ) KeyRefusal → Outcome
key_told a = bytes_told 32 a

abbrev pub traffic_told : Result TrafficKeys KeyRefusal → Outcome
traffic_told (Ok a) = record { reply = made; bytes = a.key; size = a.length; fixed = a.fixed }
traffic_told (Err e) = record { reply = refused (refusal_number e); bytes = replicate 32 0; size = 0; fixed = replicate 12 0 }

abbrev pub session_told : Result (List ℕ) KeyRefusal → Outcome
session_told a = bytes_told 33 a

abbrev pub identifier_told : Result (List ℕ) KeyRefusal → Outcome
identifier_told a = bytes_told 18 a
