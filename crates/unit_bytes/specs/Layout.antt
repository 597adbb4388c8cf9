-- The layout of a row's and a door's bytes: how many there are, and where each part begins; and the bytes of a word of marks. A change of layout changes these lines, Content, and the constants of src/lib.rt.
use Rattle.std.specs.Prelude.{ℕ}

-- a word of marks
abbrev pub word_size : ℕ
word_size = 4

-- a row: TEP, role, identifier and secret of a record
abbrev pub row_size : ℕ
row_size = 52

abbrev pub row_identifier_at : ℕ
row_identifier_at = 2

abbrev pub row_secret_at : ℕ
row_secret_at = 20

-- a door: its numbers, the two options, identifier and secret of the record in hand
abbrev pub door_size : ℕ
door_size = 148

abbrev pub numbers_size : ℕ
numbers_size = 18

abbrev pub own_at : ℕ
own_at = 18

abbrev pub peer_at : ℕ
peer_at = 58

abbrev pub identifier_at : ℕ
identifier_at = 98

abbrev pub secret_at : ℕ
secret_at = 116

-- the flags among the numbers of a door, and its row numbers
abbrev pub mandatory_at : ℕ
mandatory_at = 1

abbrev pub resumed_at : ℕ
resumed_at = 7

abbrev pub held_at : ℕ
held_at = 10

abbrev pub row_numbers_at : ℕ
row_numbers_at = 14
