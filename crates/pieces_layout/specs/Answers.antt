-- The answers of the calls on pieces, in document 01's numbers and values; each view loses nothing.
use Rattle.std.specs.Prelude.{ℕ, ◌+◌, ◌≡◌, List, [], ◌∷◌}
use Rattle.std.proofs.Common.{◌∙◌}
use Rattle.std.proofs.Math.Option.{Option, none, some}
use Rattle.wire.specs.Bytes.{bytes_from}
use Rattle.init_layout.specs.Layout.{Init, init1, init2}
use Rattle.init_layout.specs.Reading.{nonce_from, took, reading_as, padded}
use Rattle.frame_layout.specs.Outcome as frame
use Rattle.pieces_layout.specs.Reader.{reader_of}
use Rattle.pieces_layout.specs.Step.{Item, init, header, body, Told, waiting, item, refused, short, Taken, taken_as}
use Rattle.pieces_layout.specs.Starts.{Begun, begun_as}
use Rattle.pieces_layout.specs.declared.PieceSays.{PieceSays}
use Rattle.pieces_layout.specs.declared.PieceSays.TheVariants as p
use Rattle.pieces_layout.specs.declared.Fed.{Fed}
use Rattle.pieces_layout.specs.declared.PieceStart.{PieceStart}
use Rattle.pieces_layout.specs.declared.PieceStart.TheVariants as s

-- an Init message's values; its nonce and, behind it, its key stand in the gathered bytes
abbrev pub init_seen : Init → (cipher count n keys : ℕ) → List ℕ → Item
init_seen i cipher count n keys g =
    init i keys (reading_as (took cipher count n) (bytes_from 32 g (nonce_from i count)) (padded (bytes_from keys g (nonce_from i count + 32))))

abbrev pub header_seen : frame.Reply → (control high low : ℕ) → Item
header_seen reply control high low = header (record { reply = reply; bytes = control ∷ high ∷ low ∷ []; buffer = [] })

-- 8 for bytes that no continuation makes readable, 10 where no cipher is common, 11 where no frame begins so; 5 for lent memory that is too short
abbrev pub told_of : PieceSays → (gathered : List ℕ) → Told
told_of p.Waiting g = waiting
told_of (p.Init1 cipher count n keys) g = item (init_seen init1 cipher count n keys g)
told_of (p.Init2 cipher n keys) g = item (init_seen init2 cipher 1 n keys g)
told_of (p.Header rekey clen next control high low) g = item (header_seen (frame.header rekey clen next) control high low)
told_of (p.Body begins ends) g = item (body begins ends)
told_of (p.Unreadable position) g = refused 8 position
told_of (p.NoCommonCipher position) g = refused 10 position
told_of (p.NoFrame position) g = refused 11 position
told_of p.NoRoom g = short

-- an answer, and the lent memory afterwards
abbrev pub taken_of : Fed → (numbers gathered : List ℕ) → Taken
taken_of a n g = taken_as (reader_of n g) a.used (told_of a.says g)

-- 3 for arguments that do not fit, 5 for lent memory that is too short
abbrev pub start_number : PieceStart → Option ℕ
start_number s.Started = none
start_number s.Unfit = some 3
start_number s.NoRoom = some 5

abbrev pub begun_of : PieceStart → (numbers gathered : List ℕ) → Begun
begun_of a n g = begun_as (start_number a) (reader_of n g)
