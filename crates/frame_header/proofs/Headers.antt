-- Laws of headers: each way out of writing and reading one. Assumes nothing.
use Rattle.std.specs.Prelude.{ℕ, ◌≤◌, ◌<◌, ◌≡◌, refl, List, [], ◌∷◌, Bool, true, false, length, get_or, Some, None, Ok, Err}
use Rattle.std.proofs.Common.{sym, ◌∙◌, ap, ap₂, arith, lt-ltb, le-ltb}
use mir.Val.{bool_byte as from_bool}
use Rattle.wire.specs.Bytes.{pasted, bytes_from}
use Rattle.wire.specs.ByteLaws.{bytes_from_part}
use Rattle.wire.specs.Number.{big_endian, number_at}
use Rattle.refusals.specs.Rows.{refusal}
use Rattle.frame_layout.specs.Layout as layout
use Rattle.frame_layout.specs.Layout.{bit0, control_sent, associated, next_offset, no_frame}
use Rattle.frame_layout.proofs.LayoutLaws.{frame_fits}
use Rattle.frame_layout.specs.Outcome.{unless}
use Rattle.frame_offset.proofs.Next.{none_told, next_told_lem}
use Rattle.frame_layout.specs.Calls.{next, write_header, read_header, length_in, header_in, header_out, outcome}
use Rattle.frame_layout.specs.Answers.{next_told, header_written, header_told}
use Rattle.frame_layout.specs.declared.HeaderWriteRefusal.TheVariants as w
use Rattle.frame_layout.specs.declared.HeaderReadRefusal.TheVariants as h

-- the control byte that is sent
pub rekey_sent : (b : Bool) → from_bool b ≡ control_sent b
unfolding control_sent
rekey_sent true = refl
rekey_sent false = refl

-- a length that a frame has is a number of two bytes
pub header_fits : (offset clen m : ℕ) → next_told (Some m) ≡ outcome (next offset clen) → clen ≤ 65535
header_fits offset clen m e = (frame_fits offset clen (next_told_lem offset clen m e).0).1

module _ (rekey : Bool) (clen offset : ℕ) (s : List ℕ) where
  pub header_over : length s < 3 → header_written (Err w.NoRoom) s ≡ outcome (write_header rekey clen offset s)
  unfolding outcome unless refusal
  header_over h = rw (lt-ltb _ _ h)

  module _ (room : 3 ≤ length s) where
    none_out : no_frame offset clen ≡ true → header_written (Err w.NoFrame) s ≡ outcome (write_header rekey clen offset s)
    unfolding outcome unless refusal
    none_out e = rw (le-ltb _ _ room, e)

    header_out_lem : no_frame offset clen ≡ false → header_written (Ok (next_offset offset clen)) (pasted s 0 (control_sent rekey ∷ big_endian 2 clen)) ≡ outcome (write_header rekey clen offset s)
    unfolding outcome unless refusal header_out layout.header
    header_out_lem e = rw (le-ltb _ _ room, e)

    pub header_none : next_told None ≡ outcome (next offset clen) → header_written (Err w.NoFrame) s ≡ outcome (write_header rekey clen offset s)
    header_none e = none_out (none_told offset clen e)

    pub header_put : (m control : ℕ) (t : List ℕ) → next_told (Some m) ≡ outcome (next offset clen) → control ≡ control_sent rekey
        → t ≡ pasted s 0 (control ∷ big_endian 2 clen) → header_written (Ok m) t ≡ outcome (write_header rekey clen offset s)
    header_put m control t e q r =
        ap₂ (λ n l. header_written (Ok n) l) (next_told_lem offset clen m e).1 (r ∙ ap (λ x. pasted s 0 (x ∷ big_endian 2 clen)) q)
        ∙ header_out_lem (next_told_lem offset clen m e).0

module _ (s : List ℕ) (offset : ℕ) where
  pub header_short : length s < 3 → header_told (Err h.Incomplete) ≡ outcome (read_header s offset)
  unfolding outcome unless refusal
  header_short h = rw (lt-ltb _ _ h)

  module _ (room : 3 ≤ length s) where
    unfit : no_frame offset (number_at 2 s 1) ≡ true → header_told (Err h.NoFrame) ≡ outcome (read_header s offset)
    unfolding outcome unless refusal length_in
    unfit e = rw (le-ltb _ _ room, e)

    pub header_unfit : (clen : ℕ) → clen ≡ number_at 2 s 1 → next_told None ≡ outcome (next offset clen) → header_told (Err h.NoFrame) ≡ outcome (read_header s offset)
    header_unfit clen p e = unfit (ap (no_frame offset) (sym p) ∙ none_told offset clen e)

    three : get_or s 0 0 ∷ get_or s 1 0 ∷ get_or s 2 0 ∷ [] ≡ associated s
    unfolding associated bytes_from
    three = bytes_from_part 3 s 0 (omega arith)

    fit : no_frame offset (number_at 2 s 1) ≡ false
        → header_told (Ok (record { rekey = (bit0 (get_or s 0 0)); clen = (number_at 2 s 1); next = (next_offset offset (number_at 2 s 1)); associated = associated s })) ≡ outcome (read_header s offset)
    unfolding outcome unless refusal length_in header_in
    fit e = rw (le-ltb _ _ room, e)

    pub header_read : (clen m : ℕ) → clen ≡ number_at 2 s 1 → next_told (Some m) ≡ outcome (next offset clen)
        → header_told (Ok (record { rekey = (bit0 (get_or s 0 0)); clen = clen; next = m; associated = get_or s 0 0 ∷ get_or s 1 0 ∷ get_or s 2 0 ∷ [] })) ≡ outcome (read_header s offset)
    header_read clen m p e =
        ap₂ (λ x y. header_told (Ok (record { rekey = (bit0 (get_or s 0 0)); clen = x; next = y; associated = get_or s 0 0 ∷ get_or s 1 0 ∷ get_or s 2 0 ∷ [] })))
        p ((next_told_lem offset clen m e).1 ∙ ap (next_offset offset) p)
        ∙ (ap (λ l. header_told (Ok (record { rekey = (bit0 (get_or s 0 0)); clen = (number_at 2 s 1); next = (next_offset offset (number_at 2 s 1)); associated = l }))) three
        ∙ fit (ap (no_frame offset) (sym p) ∙ (next_told_lem offset clen m e).0))
