-- How a reader is started: for Init1 at B, for Init2 at A, or for frames at once, as of a resumed connection.
use Rattle.std.specs.Prelude.{ℕ, List, [], ◌∷◌, Bool, false, ◌||◌, ltb, eqb, length}
use Rattle.std.proofs.Math.Option.{Option, none, some}
use Rattle.wire.specs.Bytes.{pasted}
use Rattle.refusals.specs.Rows.{refusal}
use Rattle.eno.specs.Tep.{key_length}
use Rattle.init_layout.specs.Layout.{cipher_bytes}
use Rattle.init_layout.specs.declared.Enabled.{Enabled}
use Rattle.pieces_layout.specs.Reader.{Reader, reader_of, numbers_n, gathered_n, own_from, bits_of, become}

-- a start with its arguments
pub data Start : Type 0 where
  for_init1 : (tep : ℕ) → Enabled → Start
  for_init2 : (tep : ℕ) (own : List ℕ) → Start
  for_frames : Start

-- the number of a refusal, if any, and the reader afterwards
pub record Begun : Type 0 where
  pub refused_by : Option ℕ
  pub reader : Reader

abbrev pub begun_as : Option ℕ → Reader → Begun
begun_as t r = record { refused_by = t; reader = r }

-- 3: Init for another TEP than 23 and 24; over 255 ciphers
unfoldable pub is_unfit : Start → Bool
is_unfit (for_init1 t enabled) = eqb (key_length t) 0
is_unfit (for_init2 t own) = eqb (key_length t) 0 || ltb 255 (length own)
is_unfit for_frames = false

-- 5: what is lent is too short for what is kept in it; only a start for Init2 writes to the gathered bytes
unfoldable pub no_room_for : Start → Reader → Bool
no_room_for (for_init1 t enabled) r = ltb (length r.numbers) numbers_n
no_room_for (for_init2 t own) r = ltb (length r.numbers) numbers_n || ltb (length r.gathered) gathered_n
no_room_for for_frames r = ltb (length r.numbers) numbers_n

-- the reader that waits for the stream's first byte
unfoldable pub fresh : Start → Reader → Reader
fresh (for_init1 t enabled) r = become r 0 t (bits_of enabled) 4
fresh (for_init2 t own) r = become (reader_of r.numbers (pasted r.gathered own_from (cipher_bytes own))) 0 t (length own) 5
fresh for_frames r = become r 0 0 0 0

-- what a start does unless it is refused
unfoldable pub unless : Option ℕ → (before after : Reader) → Begun
unless none r x = begun_as none x
unless (some n) r x = begun_as (some n) r

unfoldable pub start : Start → Reader → Begun
start c r = unless (refusal ((is_unfit c, 3) ∷ (no_room_for c r, 5) ∷ [])) r (fresh c r)
