-- Worked examples: streams as they arrive, each in one piece and byte by byte: what is told, where, and how it ends.
use Rattle.std.specs.Prelude.{ℕ, ◌+◌, ◌-◌, ◌≡◌, List, [], ◌∷◌, ◌++◌, true, false, replicate}
use Rattle.init_layout.specs.Layout.{init1}
use Rattle.init_layout.specs.Reading.{took, reading_as}
use Rattle.init_layout.specs.declared.Enabled.{Enabled}
use Rattle.frame_layout.specs.Outcome as outcomes
use Rattle.pieces_layout.specs.Reader.{Reader, reader_of}
use Rattle.pieces_layout.specs.Step.{Item, init, header, body, item}
use Rattle.pieces_layout.specs.Starts.{for_init1, for_init2, start}
use Rattle.pieces_layout.specs.Run.{Report}
use Rattle.pieces_layout.specs.Stream.{Ending, waits, stops, Parsed}

-- the bytes M1, M2, N and K of the examples, and ciphers 0001 and 0003
abbrev m1 : List ℕ
m1 = 0x15 ∷ 0x10 ∷ 0x1a ∷ 0x0e ∷ []

abbrev m2 : List ℕ
m2 = 0x09 ∷ 0x71 ∷ 0x05 ∷ 0xe0 ∷ []

abbrev n32 : List ℕ
n32 = replicate 32 0x4e

abbrev k32 : List ℕ
k32 = replicate 32 0x4b

abbrev length_bytes : ℕ → List ℕ
length_bytes n = 0 ∷ 0 ∷ 0 ∷ n ∷ []

-- a whole Init1 with one cipher
abbrev message1 : (length cipher : ℕ) → (ignored : List ℕ) → List ℕ
message1 n c ignored = m1 ++ length_bytes n ++ (0x01 ∷ 0x00 ∷ c ∷ []) ++ n32 ++ k32 ++ ignored

-- readers: started for Init1 at B, for Init2 at A; in frames from an offset on
abbrev blank : Reader
blank = reader_of (replicate 4 0) (replicate 4608 0)

abbrev enabled_all : Enabled
enabled_all = record { aes128 = true; aes256 = true; chacha20 = true }

abbrev at_b : Reader
at_b = (start (for_init1 0x23 enabled_all) blank).reader

abbrev at_a : Reader
at_a = (start (for_init2 0x23 (0x0001 ∷ [])) blank).reader

abbrev frames_from : ℕ → Reader
frames_from o = reader_of (o ∷ 0 ∷ 0 ∷ 0 ∷ []) []

-- a stream for a reader, and what comes of it
abbrev row : Reader → List ℕ → List Report → Ending → Reader × List ℕ × Parsed
row r s l e = (r, s, record { reports = l; ending = e })

abbrev report : Item → ℕ → Report
report x n = record { item = x; after = n }

abbrev init_as : (length cipher : ℕ) → Item
init_as n c = init init1 32 (reading_as (took c 1 n) n32 (k32 ++ replicate 24 0))

abbrev header_as : (clen next : ℕ) (bytes : List ℕ) → Item
header_as clen next s = header (record { reply = outcomes.header false clen next; bytes = s; buffer = [] })

-- 2^64 - n
abbrev below : ℕ → ℕ
below n = 0x10000000000000000 - n

abbrev pub table : List (Reader × List ℕ × Parsed)
table =
    -- no byte
    row at_b [] [] (waits 0)
    -- an Init1 with ignored bytes of the next frame behind it: the header of a frame with 17 bytes at 75, and its body
    ∷ row at_b (message1 0x4b 0x01 [] ++ 0x00 ∷ 0x00 ∷ 0x11 ∷ replicate 17 0xff) (report (init_as 75 1) 75 ∷ report (header_as 17 95 (0x00 ∷ 0x00 ∷ 0x11 ∷ [])) 78 ∷ report (body 78 95) 95 ∷ []) (waits 95)
    -- a message with an ignored byte: the first frame begins at 76
    ∷ row at_b (message1 0x4c 0x01 (0xff ∷ []) ++ 0x00 ∷ 0x00 ∷ 0x11 ∷ 0xff ∷ []) (report (init_as 76 1) 76 ∷ report (header_as 17 96 (0x00 ∷ 0x00 ∷ 0x11 ∷ [])) 79 ∷ []) (waits 80)
    -- 8: another magic; a length above 4,096; too short for the count; a void cipher at its second byte
    ∷ row at_b (0x15 ∷ 0x11 ∷ 0x00 ∷ []) [] (stops 8 1)
    ∷ row at_b (m1 ++ 0x00 ∷ 0x00 ∷ 0x10 ∷ 0x01 ∷ 0x01 ∷ []) [] (stops 8 7)
    ∷ row at_b (m1 ++ length_bytes 0x4b ++ 0x02 ∷ 0x00 ∷ []) [] (stops 8 8)
    ∷ row at_b (m1 ++ length_bytes 0x4d ++ 0x02 ∷ 0x00 ∷ 0x01 ∷ 0x00 ∷ 0x00 ∷ 0x4e ∷ []) [] (stops 8 12)
    ∷ row at_a (m2 ++ length_bytes 0x4a ++ 0x00 ∷ 0x00 ∷ 0x4e ∷ []) [] (stops 8 9)
    -- 10 at the Init's last byte
    ∷ row at_b (message1 0x4c 0x03 (0xff ∷ []) ++ 0x00 ∷ []) [] (stops 10 75)
    -- 11: at its third byte; at offsets near 2^64
    ∷ row (frames_from 75) (0x00 ∷ 0x00 ∷ 0x10 ∷ []) [] (stops 11 77)
    ∷ row (frames_from (below 20)) (0x00 ∷ []) [] (stops 11 (below 20))
    ∷ row (frames_from (below 21)) (0x00 ∷ 0x01 ∷ []) [] (stops 11 (below 20))
    ∷ row (frames_from (below 21)) (0x00 ∷ 0x00 ∷ 0x11 ∷ replicate 18 0xff)
    (report (header_as 17 (below 1) (0x00 ∷ 0x00 ∷ 0x11 ∷ [])) (below 18) ∷ report (body (below 18) (below 1)) (below 1) ∷ []) (stops 11 (below 1))
    ∷ []
