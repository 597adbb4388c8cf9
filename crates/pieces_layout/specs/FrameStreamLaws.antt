-- The frames of a stream, byte by byte, beside the one-shot reader of headers. Assumes nothing.
use Prim.Native.Nat.{ℕ, ◌+◌, ◌-◌, ◌%◌, ◌≤◌, ◌<◌}
use Rattle.std.specs.Prelude.{◌≡◌, Bool, ◌||◌, ltb, drop}
use Rattle.std.proofs.Common.{◌∙◌}
use mathlib.Core.List.{List, ◌∷◌, ◌++◌}
use Rattle.std.proofs.Math.Bool.{true, false}
use Rattle.std.proofs.Math.ListN.{length}
use Rattle.wire.specs.Bytes.{Bytes}
use Rattle.frame_layout.specs.Layout.{next_offset}
use Rattle.frame_layout.specs.Calls.{read_header, length_in, outcome}
use Rattle.pieces_layout.specs.Reader.{Reader, heading, position_of, state_of}
use Rattle.pieces_layout.specs.Step.{header, body, hopeless}
use Rattle.pieces_layout.specs.Stream.{waits, stops, Parsed, ending, reporting, Opening, not_yet, settled}

-- a reader that has taken the bytes p of a header that begins at o
pub record Heads (o : ℕ) (p : List ℕ) (r : Reader) : Type 0 where
  pub four : 4 ≤ length r.numbers
  pub is : state_of r ≡ heading p
  pub at : position_of r ≡ o + length p
  pub few : length p ≤ 2
  pub bytes : Bytes p

-- what follows a header's last byte
unfoldable pub body_in : ((offset : ℕ) (s : List ℕ) → Parsed) → (o n : ℕ) (l : List ℕ) → Bool → Parsed
body_in again o n l b = elim b [
  | true ↦ ending (waits (o + 3 + length l))
  | false ↦ reporting (body (o + 3) (next_offset o n)) (next_offset o n) (again (next_offset o n) (drop n l))
]

unfoldable pub frame_in : ((offset : ℕ) (s : List ℕ) → Parsed) → (o : ℕ) (p l : List ℕ) → Bool → Parsed
frame_in again o p l b = elim b [
  | true ↦ ending (stops 11 (o + length p - 1))
  | false ↦ reporting (header (outcome (read_header p o))) (o + 3) (body_in again o (length_in p) l (ltb (length l) (length_in p)))
]

unfoldable pub opened_in : ((offset : ℕ) (s : List ℕ) → Parsed) → (o : ℕ) (s : List ℕ) → Opening → Parsed
opened_in again o s v = elim v [ not_yet ↦ ending (waits (o + length s)) | settled p l ↦ frame_in again o p l (hopeless o p) ]
