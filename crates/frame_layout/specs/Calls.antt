-- The calls on frames, each with its refusals in their order and what it gives otherwise.
use Rattle.std.specs.Prelude.{ℕ, List, [], ◌∷◌, Bool, cond, not, ◌&&◌, ◌||◌, ltb, eqb, length, get_or, replicate}
use Rattle.wire.specs.Bytes.{pasted}
use Rattle.wire.specs.Number.{number_at}
use Rattle.wire.specs.Frame as wire
use Rattle.refusals.specs.Rows.{refusal}
use Rattle.frame_layout.specs.Layout as layout
use Rattle.frame_layout.specs.Layout.{bit0, bit1, control_sent, associated, next_offset, no_frame, most_plaintext, flags_sent, heading_length}
use Rattle.frame_layout.specs.Outcome.{Outcome, begins, header, made, written, plaintext, unless}

-- a call with its arguments; `lent` is the lent buffer
pub data Ask : Type 0 where
  next : (offset clen : ℕ) → Ask
  write_header : (rekey : Bool) (clen offset : ℕ) (lent : List ℕ) → Ask
  read_header : (bytes : List ℕ) (offset : ℕ) → Ask
  nonce : (fixed : List ℕ) (offset : ℕ) → Ask
  write_plaintext : (fin urg : Bool) (urgent : ℕ) (payload lent : List ℕ) → Ask
  read_plaintext : (bytes : List ℕ) → Ask

-- the ciphertext length of a header: its second and third byte
unfoldable pub length_in : List ℕ → ℕ
length_in s = number_at 2 s 1

unfoldable pub header_in : List ℕ → ℕ → Outcome
header_in s offset = record { reply = header (bit0 (get_or s 0 0)) (length_in s) (next_offset offset (length_in s)); bytes = associated s; buffer = [] }

unfoldable pub header_out : Bool → (clen offset : ℕ) → List ℕ → Outcome
header_out rekey clen offset s = record { reply = begins (next_offset offset clen); bytes = []; buffer = pasted s 0 (layout.header (control_sent rekey) clen) }

unfoldable pub plaintext_out : List ℕ → List ℕ → Outcome
plaintext_out p s = record { reply = written (length p); bytes = []; buffer = pasted s 0 p }

-- flags, then the urgent field with URGp, then the data
unfoldable pub plaintext_in : List ℕ → Outcome
plaintext_in s =
    let flags = get_or s 0 0 in
    record { reply = plaintext (bit0 flags) (bit1 flags) (cond (bit1 flags) (number_at 2 s 1) 0) (heading_length (bit1 flags)); bytes = []; buffer = [] }

-- plaintext of no bytes, or URGp with fewer than three
unfoldable pub no_plaintext : List ℕ → Bool
no_plaintext s = eqb (length s) 0 || bit1 (get_or s 0 0) && ltb (length s) 3

unfoldable pub outcome : Ask → Outcome
outcome (next offset clen) =
    unless (refusal ((no_frame offset clen, 11) ∷ [])) [] [] (record { reply = begins (next_offset offset clen); bytes = []; buffer = [] })
outcome (write_header rekey clen offset s) =
    unless (refusal ((ltb (length s) 3, 5) ∷ (no_frame offset clen, 11) ∷ [])) [] s (header_out rekey clen offset s)
outcome (read_header s offset) =
    unless (refusal ((ltb (length s) 3, 9) ∷ (no_frame offset (length_in s), 11) ∷ [])) (replicate 3 0) [] (header_in s offset)
outcome (nonce fixed offset) =
    unless (refusal ((not (eqb (length fixed) 12), 3) ∷ [])) (replicate 12 0) [] (record { reply = made; bytes = wire.nonce fixed offset; buffer = [] })
outcome (write_plaintext fin urg urgent payload s) =
    let p = layout.plaintext (flags_sent fin urg) urgent payload in
    unless (refusal ((ltb (length s) (length p), 5) ∷ (ltb most_plaintext (length p), 11) ∷ [])) [] s (plaintext_out p s)
outcome (read_plaintext s) = unless (refusal ((no_plaintext s, 12) ∷ [])) [] [] (plaintext_in s)
