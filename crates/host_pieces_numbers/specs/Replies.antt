-- What the calls on pieces give back, in plain numbers.
use Rattle.std.specs.Prelude.{ℕ, ◌≡◌, List, [], ◌∷◌, cond, ltb}
use Rattle.std.proofs.Math.Option.{Option, none, some}
use Rattle.init_layout.specs.Layout.{Init, init1, init2}
use Rattle.init_layout.specs.Reading.{nonce_from, Says, took, refused_with}
use Rattle.frame_layout.specs.Outcome as frame
use Rattle.pieces_layout.specs.Reader.{reader_of}
use Rattle.pieces_layout.specs.Step.{Item, init, header, body, Told, waiting, item, refused, short, Taken}
use Rattle.pieces_layout.specs.Starts.{Begun}
use Rattle.host_reply.specs.Numbers.{of_kind, flag_number}
use Rattle.host_reply.specs.declared.ReplyNumbers.{ReplyNumbers}
use Rattle.host_pieces_numbers.specs.declared.FedNumbers.{FedNumbers}

-- two numbers, and how many bytes were used
abbrev pub bare_numbers : (kind number place used : ℕ) → FedNumbers
bare_numbers k n p u = record { number = n; place = p; used = u; count = 0; cipher = 0; clen = 0; kind = k; rekey = 0; associated = 0 ∷ 0 ∷ 0 ∷ [] }

-- where the nonce of an Init1 stands; a message lists at most 255 ciphers
unfoldable pub nonce_place : (count : ℕ) → ℕ
nonce_place count = cond (ltb 255 count) 0 (nonce_from init1 count)

abbrev pub place_in : Init → (count : ℕ) → ℕ
place_in init1 count = nonce_place count
place_in init2 count = 10

abbrev pub message_numbers : (used cipher count n place : ℕ) → FedNumbers
message_numbers u c count n p = record { number = n; place = p; used = u; count = count; cipher = c; clen = 0; kind = 10; rekey = 0; associated = 0 ∷ 0 ∷ 0 ∷ [] }

-- an Init message: its length, its nonce's place, how many ciphers it lists, and the one that is taken
abbrev pub init_numbers : Init → (used : ℕ) → Says → FedNumbers
init_numbers i u (took c count n) = message_numbers u c count n (place_in i count)
init_numbers i u (refused_with n) = bare_numbers 0 n 0 u

abbrev pub frame_numbers : (used clen next : ℕ) → (bytes : List ℕ) → (rekey : ℕ) → FedNumbers
frame_numbers u clen next s rekey = record { number = next; place = 0; used = u; count = 0; cipher = 0; clen = clen; kind = 12; rekey = rekey; associated = s }

-- a header: the offset after the frame, rekey, the ciphertext's length, and its three bytes
abbrev pub header_numbers : (used : ℕ) → frame.Reply → (bytes : List ℕ) → FedNumbers
header_numbers u (frame.header rekey clen next) s = frame_numbers u clen next s (flag_number rekey)
header_numbers u (frame.refused n) s = bare_numbers 0 n 0 u
header_numbers u (frame.begins n) s = bare_numbers 0 0 0 u
header_numbers u frame.made s = bare_numbers 0 0 0 u
header_numbers u (frame.written n) s = bare_numbers 0 0 0 u
header_numbers u (frame.plaintext fin urg urgent at) s = bare_numbers 0 0 0 u

abbrev pub item_numbers : (used : ℕ) → Item → FedNumbers
item_numbers u (init i keys x) = init_numbers i u x.says
item_numbers u (header o) = header_numbers u o.reply o.bytes
item_numbers u (body begins ends) = bare_numbers 18 ends begins u

-- what a piece comes to
unfoldable pub fed_numbers : (used : ℕ) → Told → FedNumbers
fed_numbers u waiting = bare_numbers 17 0 0 u
fed_numbers u (item x) = item_numbers u x
fed_numbers u (refused n p) = bare_numbers 0 n p u
fed_numbers u short = bare_numbers 0 5 0 u

-- that, and the lent memory afterwards
abbrev pub GivesFed : FedNumbers → (numbers gathered : List ℕ) → Taken → Type 0
GivesFed r n g t = (r ≡ fed_numbers t.used t.told) × (reader_of n g ≡ t.reader)

-- a start: done, or a refusal's number
unfoldable pub start_numbers : Option ℕ → ReplyNumbers
start_numbers none = of_kind 5 0
start_numbers (some n) = of_kind 0 n

abbrev pub GivesStart : ReplyNumbers → (numbers gathered : List ℕ) → Begun → Type 0
GivesStart r n g b = (r ≡ start_numbers b.refused_by) × (reader_of n g ≡ b.reader)
