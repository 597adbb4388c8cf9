-- The answers of extract and expand in the papers' numbers and values; each view loses nothing.
use Rattle.std.specs.Prelude.{ℕ, List, [], Result, Ok, Err, replicate}
use Rattle.hkdf_interface.specs.Interface.{Reply, refused, made, written, Outcome, TooLong}
use Rattle.hkdf_interface.specs.declared.ExpandRefusal.{ExpandRefusal}
use Rattle.hkdf_interface.specs.declared.ExpandRefusal.TheVariants as w

-- 17 for a hash over more than 2^61 - 1 bytes
abbrev pub extract_reply : Result (List ℕ) TooLong → Reply
extract_reply (Ok d) = made
extract_reply (Err e) = refused 17

-- zeros beside a refusal
abbrev pub extract_bytes : Result (List ℕ) TooLong → List ℕ
extract_bytes (Ok d) = d
extract_bytes (Err e) = replicate 32 0

abbrev pub extract_told : Result (List ℕ) TooLong → Outcome
extract_told a = record { reply = extract_reply a; bytes = extract_bytes a; buffer = [] }

-- 3 for a key not of 32 bytes, 5 for a lent buffer that is too short, 17 also for more than 255 hash lengths
abbrev pub expand_number : ExpandRefusal → ℕ
expand_number w.Unfit = 3
expand_number w.NoRoom = 5
expand_number w.TooLong = 17

abbrev pub expand_reply : Result ℕ ExpandRefusal → Reply
expand_reply (Ok n) = written n
expand_reply (Err e) = refused (expand_number e)

abbrev pub expand_told : Result ℕ ExpandRefusal → List ℕ → Outcome
expand_told a s = record { reply = expand_reply a; bytes = []; buffer = s }
