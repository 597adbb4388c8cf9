-- Starting a reader: it is refused with n exactly when n is the least number that applies, a refusal leaves the reader as it was, and a reader that is started waits. Assumes nothing.
use Rattle.std.specs.Prelude.{ℕ, List, [], ◌∷◌, Bool, false, ◌||◌, ◌↔◌, ltb, length}
use Rattle.std.proofs.Math.Path.{◌≡◌}
use Rattle.std.proofs.Common.{◌∙◌}
use Rattle.refusals.specs.Rows.{marked}
use Rattle.init_layout.specs.Numbered.{bad_tep}
use Rattle.pieces_layout.specs.Reader.{Reader}
use Rattle.pieces_layout.specs.Starts.{Start, for_init1, for_init2, for_frames}

-- 3: TEP unknown; Init for 21 or 22; over 255 ciphers
unfoldable pub number3 : Start → Bool
number3 (for_init1 t enabled) = bad_tep t
number3 (for_init2 t own) = bad_tep t || ltb 255 (length own)
number3 for_frames = false

-- 5: lent memory shorter than what is kept in it
unfoldable pub number5 : Start → Reader → Bool
number5 (for_init1 t enabled) r = ltb (length r.numbers) 4
number5 (for_init2 t own) r = ltb (length r.numbers) 4 || ltb (length r.gathered) 4608
number5 for_frames r = ltb (length r.numbers) 4

-- by number; the starts are defined without it
unfoldable pub rows : Start → Reader → List (Bool × ℕ)
rows c r = (number3 c, 3) ∷ (number5 c r, 5) ∷ []

unfoldable pub applies : Start → Reader → ℕ → Bool
applies c r m = marked m (rows c r)

-- starts for Init1 and for frames are not lent the gathered bytes: they leave them as they are, and do not look at them
abbrev pub Lone : Start → Type 0
Lone (for_init1 t enabled) = Unit {0}
Lone (for_init2 t own) = ⊥
Lone for_frames = Unit {0}
