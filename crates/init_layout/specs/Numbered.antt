-- Numbers given back by the four Init calls: document 01's table, rows 3, 5, 8, 9 and 10, each in the row's words, arranged by number. The calls are defined without it.
use Rattle.std.specs.Prelude.{ℕ, ◌<◌, ◌≡◌, List, Bool, true, false, not, ◌||◌, ltb, eqb, length}
use Rattle.std.proofs.Math.Option.{Option, none, some}
use Rattle.wire.specs.Bytes.{Bytes}
use Rattle.eno.specs.Tep.{is_known, key_length}
use Rattle.eno.specs.Option.{Writing, wrote}
use Rattle.eno.specs.Option as o
use Rattle.init_layout.specs.Layout.{Init, init1, init2, is_void, init1_bytes, init2_bytes, Readable, Continues}
use Rattle.init_layout.specs.Reading.{first_that, is_enabled, in_init1, Says, took, refused_with, read_init1, read_init2}
use Rattle.init_layout.specs.Writing.{write_init1, write_init2}
use Rattle.init_layout.specs.declared.Enabled.{Enabled}

-- a call with all that it brings, the lent buffer last
pub data Call : Type 0 where
  write1 : (t : ℕ) (ciphers nonce key s : List ℕ) → Call
  write2 : (t cipher : ℕ) (nonce key s : List ℕ) → Call
  read1 : (t : ℕ) (enabled : Enabled) (p : List ℕ) → Call
  read2 : (t : ℕ) (own p : List ℕ) → Call

-- what is read are bytes
abbrev pub OfBytes : Call → Type 0
OfBytes (write1 t ciphers nonce key s) = Unit {0}
OfBytes (write2 t cipher nonce key s) = Unit {0}
OfBytes (read1 t enabled p) = Bytes p
OfBytes (read2 t own p) = Bytes p

-- the number of a refusal
abbrev pub writing_number : Writing → Option ℕ
writing_number (wrote n) = none
writing_number (o.refused_with n) = some n

abbrev pub says_number : Says → Option ℕ
says_number (took c count n) = none
says_number (refused_with n) = some n

-- by which number a call is refused, if it is
unfoldable pub refused_by : Call → Option ℕ
refused_by (write1 t ciphers nonce key s) = writing_number (write_init1 t ciphers nonce key s).says
refused_by (write2 t cipher nonce key s) = writing_number (write_init2 t cipher nonce key s).says
refused_by (read1 t enabled p) = says_number (read_init1 t enabled p).says
refused_by (read2 t own p) = says_number (read_init2 t own p).says

-- TEP unknown; Init for 21 or 22
unfoldable pub bad_tep : ℕ → Bool
bad_tep t = not (is_known t) || eqb t 0x21 || eqb t 0x22

-- Init nonce or key of another length
unfoldable pub bad_parts : ℕ → List ℕ → List ℕ → Bool
bad_parts t nonce key = bad_tep t || not (eqb (length nonce) 32) || not (eqb (length key) (key_length t))

-- 3: TEP unknown; Init for 21 or 22; key or Init nonce of another length; over 255 ciphers; to be written, an empty list or a cipher 0000 (change request (viii))
unfoldable pub number3 : Call → Bool
number3 (write1 t ciphers nonce key s) = bad_parts t nonce key || ltb 255 (length ciphers) || eqb (length ciphers) 0 || is_void ciphers
number3 (write2 t cipher nonce key s) = bad_parts t nonce key || eqb cipher 0x0000
number3 (read1 t enabled p) = bad_tep t
number3 (read2 t own p) = bad_tep t || ltb 255 (length own)

-- 5: lent buffer shorter than what is to be written
unfoldable pub number5 : Call → Bool
number5 (write1 t ciphers nonce key s) = ltb (length s) (length (init1_bytes ciphers nonce key))
number5 (write2 t cipher nonce key s) = ltb (length s) (length (init2_bytes cipher nonce key))
number5 (read1 t enabled p) = false
number5 (read2 t own p) = false

-- no common cipher, after a full reading
pub record NoCommon (i : Init) (keys : ℕ) (test : ℕ → Bool) (p : List ℕ) : Type 0 where
  pub readable : Readable i keys p
  pub nothing : first_that test readable.message.ciphers ≡ none

-- 8: Init bytes at hand that no continuation makes readable
abbrev pub Number8 : Call → Type 0
Number8 (write1 t ciphers nonce key s) = ⊥
Number8 (write2 t cipher nonce key s) = ⊥
Number8 (read1 t enabled p) = Continues init1 (key_length t) p → ⊥
Number8 (read2 t own p) = Continues init2 (key_length t) p → ⊥

-- 9: Init not complete, and some continuation is readable
abbrev pub Number9 : Call → Type 0
Number9 (write1 t ciphers nonce key s) = ⊥
Number9 (write2 t cipher nonce key s) = ⊥
Number9 (read1 t enabled p) = (Readable init1 (key_length t) p → ⊥) × Continues init1 (key_length t) p
Number9 (read2 t own p) = (Readable init2 (key_length t) p → ⊥) × Continues init2 (key_length t) p

-- 10: no common cipher (for A: Init2's not in its Init1), after a full reading
abbrev pub Number10 : Call → Type 0
Number10 (write1 t ciphers nonce key s) = ⊥
Number10 (write2 t cipher nonce key s) = ⊥
Number10 (read1 t enabled p) = NoCommon init1 (key_length t) (is_enabled enabled) p
Number10 (read2 t own p) = NoCommon init2 (key_length t) (in_init1 own) p

-- a row's number applies
pub data Applies (c : Call) (n : ℕ) : Type 0 where
  row3 : n ≡ 3 → number3 c ≡ true → Applies c n
  row5 : n ≡ 5 → number5 c ≡ true → Applies c n
  row8 : n ≡ 8 → Number8 c → Applies c n
  row9 : n ≡ 9 → Number9 c → Applies c n
  row10 : n ≡ 10 → Number10 c → Applies c n

-- n is the least number that applies
pub record Least (c : Call) (n : ℕ) : Type 0 where
  pub this : Applies c n
  pub none_below : (m : ℕ) → m < n → Applies c m → ⊥
