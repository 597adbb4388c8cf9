-- What the steps on gathered bytes give.
use Rattle.std.specs.Prelude.{ℕ, ◌≤◌, ◌≡◌, List, Bool, true, false, cond, ltb, eqb, length, get_or, set}
use Rattle.eno.specs.Tep.{key_length}
use Rattle.init_layout.specs.Layout.{Init}
use Rattle.init_layout.specs.Reading.{took, refused_with, Reading, taken_from}
use Rattle.pieces_layout.specs.Reader.{Reader, reader_of, own_from, in_init, state_of, test_of, become}
use Rattle.pieces_layout.specs.Step.{init, waiting, item, refused, Taken, taken_as, fed}
use Rattle.pieces_steps.specs.Kinds.{kind_of}

-- the stage at which each message is read
abbrev pub stage_for : (two : Bool) → ℕ
stage_for false = 4
stage_for true = 5

-- a byte gathered at place n, if messages reach there
unfoldable pub stored_in : List ℕ → (n byte : ℕ) → List ℕ
stored_in g n b = cond (ltb n own_from) (set g n b) g

-- a whole message and what it says, x: an item, or a refusal by the byte at the place `last`
unfoldable pub finished_as : Init → (keys : ℕ) → Reader → (end last used : ℕ) → Reading → Taken
finished_as i keys r end last used x = elim x.says [
  | took c count n ↦ taken_as (become r end 0 0 0) used (item (init i keys x))
  | refused_with m ↦ taken_as (become r last m 0 6) 0 (refused m last)
]

unfoldable pub finished_at : Init → (keys : ℕ) → Reader → (end last used : ℕ) → Taken
finished_at i keys r end last used = finished_as i keys r end last used (taken_from i keys (test_of i r) r.gathered end)

-- numbers and bytes with which a message is read
pub record Reads (two : Bool) (tep : ℕ) (w g : List ℕ) : Type 0 where
  pub four : 4 ≤ length w
  pub wide : 4608 ≤ length g
  pub state : state_of (reader_of w g) ≡ in_init (kind_of two) (key_length tep)

-- a piece, for a reader that reads this message
unfoldable pub fed_init : (two : Bool) → Reader → (piece : List ℕ) → Taken
fed_init two r p = cond (eqb (get_or r.numbers 3 0) (stage_for two)) (fed r p) (taken_as r 0 waiting)
