-- A whole stream by the one-shot readers alone, without a reader of pieces: what is finished in it, where, and how it ends.
use Rattle.std.specs.Prelude.{ℕ, zero, suc, ◌+◌, ◌-◌, List, [], ◌∷◌, ◌++◌, Bool, true, false, not, ◌||◌, ltb, eqb, length, drop}
use Rattle.eno.specs.Tep.{key_length}
use Rattle.init_layout.specs.Layout.{Init, init1, init2}
use Rattle.init_layout.specs.Reading.{Says, took, refused_with, Reading, read_init1, read_init2}
use Rattle.frame_layout.specs.Layout.{next_offset}
use Rattle.frame_layout.specs.Calls.{read_header, length_in, outcome}
use Rattle.pieces_layout.specs.Reader.{State, heading, in_body, in_init, stopped, position_of, state_of}
use Rattle.pieces_layout.specs.Step.{Item, init, header, body, hopeless}
use Rattle.pieces_layout.specs.Starts.{Start, for_init1, for_init2, for_frames}
use Rattle.pieces_layout.specs.Run.{Report, Ran}

-- so many bytes were taken and more are waited for, or the byte at this position settles a refusal
pub data Ending : Type 0 where
  waits : (taken : ℕ) → Ending
  stops : (number position : ℕ) → Ending

pub record Parsed : Type 0 where
  pub reports : List Report
  pub ending : Ending

abbrev pub ending : Ending → Parsed
ending e = record { reports = []; ending = e }

abbrev pub reporting : Item → (after : ℕ) → Parsed → Parsed
reporting x n y = record { reports = record { item = x; after = n } ∷ y.reports; ending = y.ending }

-- the shortest part of a stream, longer than p, with which a test holds, and what stands behind it
pub data Opening : Type 0 where
  not_yet : Opening
  settled : (opened rest : List ℕ) → Opening

unfoldable pub opening : (List ℕ → Bool) → (p s : List ℕ) → Opening
opening test p [] = not_yet
opening test p (b ∷ l) = elim (test (p ++ (b ∷ []))) [ true ↦ settled (p ++ (b ∷ [])) l | false ↦ opening test (p ++ (b ∷ [])) l ]

-- a header is decided at the first byte with which it is hopeless, at its third byte at the latest
unfoldable pub head_decided : (offset : ℕ) → List ℕ → Bool
head_decided o p = hopeless o p || eqb (length p) 3

-- the frames of a stream from this offset on, s its bytes from there on; f is above their number
unfoldable pub frames_in : (f offset : ℕ) (s : List ℕ) → Parsed
frames_in zero o s = ending (waits o)
frames_in (suc f) o s = elim (opening (head_decided o) [] s) [
  | not_yet ↦ ending (waits (o + length s))
  | settled p l ↦ elim (hopeless o p) [
    | true ↦ ending (stops 11 (o + length p - 1))
    | false ↦ reporting (header (outcome (read_header p o))) (o + 3) (elim (ltb (length l) (length_in p)) [
      | true ↦ ending (waits (o + 3 + length l))
      | false ↦ reporting (body (o + 3) (next_offset o (length_in p))) (next_offset o (length_in p)) (frames_in f (next_offset o (length_in p)) (drop (length_in p) l))
    ])
  ]
]

-- an Init message is decided at the first byte with which the one-shot reader does not want more
abbrev pub is_nine : Says → Bool
is_nine (took c count n) = false
is_nine (refused_with n) = eqb n 9

unfoldable pub init_decided : (List ℕ → Reading) → List ℕ → Bool
init_decided read p = not (is_nine (read p).says)

-- an Init message, then frames; the first frame begins where the message ends
unfoldable pub init_in : Init → (keys : ℕ) → (List ℕ → Reading) → List ℕ → Parsed
init_in i keys read s = elim (opening (init_decided read) [] s) [
  | not_yet ↦ ending (waits (length s))
  | settled p l ↦ elim (read p).says [
    | took c count n ↦ reporting (init i keys (read p)) (length p) (frames_in (suc (length l)) (length p) l)
    | refused_with n ↦ ending (stops n (length p - 1))
  ]
]

unfoldable pub parse : Start → List ℕ → Parsed
parse (for_init1 t enabled) s = init_in init1 (key_length t) (read_init1 t enabled) s
parse (for_init2 t own) s = init_in init2 (key_length t) (read_init2 t own) s
parse for_frames s = frames_in (suc (length s)) 0 s

-- what pieces come to, in the same terms
abbrev pub ending_of : State → (position : ℕ) → Ending
ending_of (heading s) p = waits p
ending_of (in_body begins ends) p = waits p
ending_of (in_init i keys) p = waits p
ending_of (stopped n) p = stops n p

unfoldable pub parsed_by : Ran → Parsed
parsed_by y = record { reports = y.reports; ending = ending_of (state_of y.reader) (position_of y.reader) }
