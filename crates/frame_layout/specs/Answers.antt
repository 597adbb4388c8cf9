-- The answers of the calls in document 01's numbers and values; each view loses nothing.
use Rattle.std.specs.Prelude.{ℕ, List, [], replicate, Option, Some, None, Result, Ok, Err}
use Rattle.frame_layout.specs.Outcome.{Reply, refused, begins, header, made, written, plaintext, Outcome}
use Rattle.frame_layout.specs.declared.HeaderWriteRefusal.{HeaderWriteRefusal}
use Rattle.frame_layout.specs.declared.HeaderWriteRefusal.TheVariants as w
use Rattle.frame_layout.specs.declared.Header.{Header}
use Rattle.frame_layout.specs.declared.HeaderReadRefusal.{HeaderReadRefusal}
use Rattle.frame_layout.specs.declared.HeaderReadRefusal.TheVariants as h
use Rattle.frame_layout.specs.declared.OtherLength.{OtherLength}
use Rattle.frame_layout.specs.declared.PlaintextWriteRefusal.{PlaintextWriteRefusal}
use Rattle.frame_layout.specs.declared.PlaintextWriteRefusal.TheVariants as p
use Rattle.frame_layout.specs.declared.Plaintext.{Plaintext}
use Rattle.frame_layout.specs.declared.TooShort.{TooShort}

-- 11 where no frame of this length begins at this offset
abbrev pub next_reply : Option ℕ → Reply
next_reply (Some o) = begins o
next_reply None = refused 11

abbrev pub next_told : Option ℕ → Outcome
next_told a = record { reply = next_reply a; bytes = []; buffer = [] }

-- 5 for a lent buffer that is too short
abbrev pub written_reply : Result ℕ HeaderWriteRefusal → Reply
written_reply (Ok o) = begins o
written_reply (Err w.NoRoom) = refused 5
written_reply (Err w.NoFrame) = refused 11

abbrev pub header_written : Result ℕ HeaderWriteRefusal → List ℕ → Outcome
header_written a s = record { reply = written_reply a; bytes = []; buffer = s }

-- 9 for fewer than three bytes
abbrev pub header_reply : Result Header HeaderReadRefusal → Reply
header_reply (Ok x) = header x.rekey x.clen x.next
header_reply (Err h.Incomplete) = refused 9
header_reply (Err h.NoFrame) = refused 11

-- zeros beside a refusal
abbrev pub header_bytes : Result Header HeaderReadRefusal → List ℕ
header_bytes (Ok x) = x.associated
header_bytes (Err e) = replicate 3 0

abbrev pub header_told : Result Header HeaderReadRefusal → Outcome
header_told a = record { reply = header_reply a; bytes = header_bytes a; buffer = [] }

-- 3 for a fixed nonce of another length
abbrev pub nonce_reply : Result (List ℕ) OtherLength → Reply
nonce_reply (Ok s) = made
nonce_reply (Err e) = refused 3

-- zeros beside a refusal
abbrev pub nonce_bytes : Result (List ℕ) OtherLength → List ℕ
nonce_bytes (Ok s) = s
nonce_bytes (Err e) = replicate 12 0

abbrev pub nonce_told : Result (List ℕ) OtherLength → Outcome
nonce_told a = record { reply = nonce_reply a; bytes = nonce_bytes a; buffer = [] }

-- 5 for a lent buffer that is too short, 11 for a plaintext that is too long
abbrev pub plaintext_written_reply : Result ℕ PlaintextWriteRefusal → Reply
plaintext_written_reply (Ok m) = written m
plaintext_written_reply (Err p.NoRoom) = refused 5
plaintext_written_reply (Err p.TooLong) = refused 11

abbrev pub plaintext_written : Result ℕ PlaintextWriteRefusal → List ℕ → Outcome
plaintext_written a s = record { reply = plaintext_written_reply a; bytes = []; buffer = s }

-- 12 for a plaintext that is too short
abbrev pub plaintext_reply : Result Plaintext TooShort → Reply
plaintext_reply (Ok x) = plaintext x.fin x.urg x.urgent x.data_at
plaintext_reply (Err e) = refused 12

abbrev pub plaintext_told : Result Plaintext TooShort → Outcome
plaintext_told a = record { reply = plaintext_reply a; bytes = []; buffer = [] }
