-- What the steps on frames give. They read and write the numbers alone: each holds whatever bytes are gathered.
use Rattle.std.specs.Prelude.{ℕ, ◌+◌, ◌-◌, ◌≡◌, List, cond, ltb, eqb, length, get_or}
use Rattle.frame_layout.specs.Layout.{next_offset}
use Rattle.frame_layout.specs.Calls.{read_header, length_in, outcome}
use Rattle.pieces_layout.specs.Reader.{Reader, reader_of, state_of, in_body, is_init, become}
use Rattle.pieces_layout.specs.Step.{header, waiting, item, refused, Taken, taken_as, hopeless, go_on, fed_on, fed}
use Rattle.pieces_layout.specs.Answers.{taken_of}
use Rattle.pieces_layout.specs.declared.PieceSays.TheVariants as s
use Rattle.pieces_layout.specs.declared.Fed.{Fed}
use Rattle.pieces_steps.specs.Later.{later}

-- a refusal told again
unfoldable pub again_of : (number position : ℕ) → Fed
again_of n p = record { used = 0; says = cond (eqb n 8) (s.Unreadable p) (cond (eqb n 10) (s.NoCommonCipher p) (s.NoFrame p)) }

abbrev pub stopped_at : Reader → (position : ℕ) → Taken
stopped_at r at = taken_as (become r at 11 0 6) 0 (refused 11 at)

-- the byte at a position is the last of p, a header's bytes as far as they came
unfoldable pub headed_at : Reader → (position : ℕ) → List ℕ → Taken
headed_at r at p =
    let o = at - (length p - 1) in
    cond (hopeless o p) (stopped_at r at)
    (cond (ltb (length p) 3) (taken_as (become r (at + 1) (get_or p 0 0) (get_or p 1 0) (length p)) 1 waiting)
    (taken_as (become r (at + 1) (at + 1) (next_offset o (length_in p)) 3) 1 (item (header (outcome (read_header p o))))))

-- that, and the bytes l behind it
unfoldable pub headed_on : Reader → (position : ℕ) → (p l : List ℕ) → Taken
headed_on r at p l = go_on (headed_at r at p) (λ x. fed_on x l)

abbrev pub Stops : Fed → (after before : List ℕ) → (position : ℕ) → Type 0
Stops f after before at = (g : List ℕ) → taken_of f after g ≡ stopped_at (reader_of before g) at

abbrev pub Heads : Fed → (after before : List ℕ) → (position : ℕ) → (p l : List ℕ) → (taken : ℕ) → Type 0
Heads f after before at p l k = (g : List ℕ) → taken_of f after g ≡ later k (headed_on (reader_of before g) at p l)

-- the last of a header's bytes finishes an item or is refused: the bytes behind it do not matter
abbrev pub HeadsLast : Fed → (after before : List ℕ) → (position : ℕ) → (p : List ℕ) → (taken : ℕ) → Type 0
HeadsLast f after before at p k = (g l : List ℕ) → taken_of f after g ≡ later k (headed_on (reader_of before g) at p l)

-- a piece in a body
abbrev pub FedBody : Fed → (after before : List ℕ) → (position begins ends : ℕ) → (piece : List ℕ) → Type 0
FedBody f after before at b e piece = (g : List ℕ) → get_or before 0 0 ≡ at → state_of (reader_of before g) ≡ in_body b e → taken_of f after g ≡ fed_on (reader_of before g) piece

-- a piece, for a reader that reads no Init message
unfoldable pub fed_frames : Reader → (piece : List ℕ) → Taken
fed_frames r p = cond (is_init (state_of r)) (taken_as r 0 waiting) (fed r p)

abbrev pub FedFrames : Fed → (after before piece : List ℕ) → Type 0
FedFrames f after before piece = (g : List ℕ) → taken_of f after g ≡ fed_frames (reader_of before g) piece
