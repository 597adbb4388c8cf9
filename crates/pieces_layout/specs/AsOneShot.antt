-- A reader that was started, and any pieces of bytes: what is told, where, and how it ends is what the one-shot readers make of the whole stream. Assumes nothing.
use Rattle.std.specs.Prelude.{ℕ, suc, ◌+◌, ◌*◌, ◌-◌, ◌≤◌, ◌<◌, ◌≡◌, false, ◌||◌}
use Rattle.std.proofs.Common.{◌∙◌}
use mathlib.Core.List.{List, ◌∷◌, ◌++◌}
use Rattle.std.proofs.Math.Option.{none}
use Rattle.std.proofs.Math.ListN.{length}
use Rattle.init_layout.specs.Layout.{Init, Ciphers}
use Rattle.init_layout.specs.Reading.{Says, took, refused_with, Reading}
use Rattle.pieces_layout.specs.Reader.{Reader, no_room}
use Rattle.pieces_layout.specs.Step.{init}
use Rattle.pieces_layout.specs.Starts.{Start, for_init1, for_init2, for_frames, begun_as, start}
use Rattle.pieces_layout.specs.Stream.{waits, stops, Parsed, ending, reporting, Opening, not_yet, settled, frames_in}

-- what follows the byte that decides
unfoldable pub after_init : (i : Init) (keys : ℕ) (read : List ℕ → Reading) (q l : List ℕ) → Says → Parsed
after_init i keys read q l v = elim v [
  | took c count n ↦ reporting (init i keys (read q)) (length q) (frames_in (suc (length l)) (length q) l)
  | refused_with n ↦ ending (stops n (length q - 1))
]

unfoldable pub opened_init : (i : Init) (keys : ℕ) (read : List ℕ → Reading) → List ℕ → Opening → Parsed
opened_init i keys read s v = elim v [ not_yet ↦ ending (waits (length s)) | settled q l ↦ after_init i keys read q l (read q).says ]

-- the ciphers of A's own Init1 are 2-byte numbers
abbrev pub OwnCiphers : Start → Type 0
OwnCiphers (for_init1 t enabled) = Unit {0}
OwnCiphers (for_init2 t own) = Ciphers own
OwnCiphers for_frames = Unit {0}

-- a reader that was started, in lent memory that is long enough
pub record StartedAs (c : Start) (r : Reader) : Type 0 where
  pub before : Reader
  pub started : start c before ≡ begun_as none r
  pub room : no_room r ≡ false
  pub ciphers : OwnCiphers c
