-- Reading means the layout, whatever the reserved bits, and what is written is read back. Assumes nothing.
use Rattle.std.specs.Prelude.{ℕ, ◌^◌, ◌<◌, ◌≡◌, List, [], ◌++◌, Bool, false, cond, drop}
use Rattle.frame_layout.specs.Layout as layout
use Rattle.frame_layout.specs.Layout.{bit0, bit1, next_offset, no_frame, heading_length}
use Rattle.frame_layout.specs.Outcome.{header, plaintext, Outcome}
use Rattle.frame_layout.specs.Calls.{read_plaintext, outcome}

-- what reading a header gives
abbrev pub header_given : (rekey : Bool) (clen after : ℕ) → List ℕ → Outcome
header_given rekey clen after bytes = record { reply = header rekey clen after; bytes = bytes; buffer = [] }

-- the bytes are a header and what follows it: the other bits of its control byte are any, and the associated data are its bytes
pub record IsHeader (s : List ℕ) (offset : ℕ) (rekey : Bool) (clen after : ℕ) (data-bytes : List ℕ) : Type 0 where
  pub control : ℕ
  pub rest : List ℕ
  pub layout_is : s ≡ layout.header control clen ++ rest
  pub bit : rekey ≡ bit0 control
  pub as_received : data-bytes ≡ layout.header control clen
  pub fits : no_frame offset clen ≡ false
  pub ends : after ≡ next_offset offset clen

-- what reading a plaintext gives
abbrev pub plaintext_given : (fin urg : Bool) (urgent at : ℕ) → Outcome
plaintext_given fin urg urgent at = record { reply = plaintext fin urg urgent at; bytes = []; buffer = [] }

-- the bytes are a plaintext whose data begin at a place: the other bits of its flags are any, and urgent is 0 without URGp
pub record IsPlaintext (s : List ℕ) (fin urg : Bool) (urgent at : ℕ) : Type 0 where
  pub flags : ℕ
  pub layout_is : s ≡ layout.plaintext flags urgent (drop at s)
  pub fin_bit : fin ≡ bit0 flags
  pub urg_bit : urg ≡ bit1 flags
  pub two_bytes : urgent < 256 ^ 2
  pub absent : urg ≡ false → urgent ≡ 0
  pub begins_at : at ≡ heading_length urg

-- a plaintext that was written is read back: its flags, urgent if URGp, and its data
pub record ReadsBack (fin urg : Bool) (urgent : ℕ) (payload t : List ℕ) : Type 0 where
  pub gives : outcome (read_plaintext t) ≡ plaintext_given fin urg (cond urg urgent 0) (heading_length urg)
  pub payload_is : drop (heading_length urg) t ≡ payload
