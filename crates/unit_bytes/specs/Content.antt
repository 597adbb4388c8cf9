-- What the bytes of a row, of a door and of the whole unit say, and what is written. Any bytes are a unit.
use Rattle.std.specs.Prelude.{ℕ, zero, suc, Bool, true, false, List, [], ◌∷◌, ◌++◌, map, get_or, take}
use Rattle.wire.specs.Bytes.{bytes_from}
use Rattle.eno.specs.declared.SessionRecord.{SessionRecord}
use Rattle.unit.specs.Numbers.{doors_n, rows_n, words_n}
use Rattle.unit.specs.declared.Position.{Position}
use Rattle.unit.specs.declared.LinkUnit.{LinkUnit}
use Rattle.unit_bytes.specs.Layout.{row_identifier_at, row_secret_at, own_at, peer_at, identifier_at, secret_at, mandatory_at, resumed_at, held_at, row_numbers_at}

-- a flag is a byte: 0 is not set, any other is set
unfoldable pub is_set : ℕ → Bool
is_set zero = false
is_set (suc n) = true

unfoldable pub flag_of : Bool → ℕ
flag_of false = 0
flag_of true = 1

-- a flag written over a byte: a byte that says it already stays
unfoldable pub flag_over : ℕ → Bool → ℕ
flag_over zero x = flag_of x
flag_over (suc n) false = 0
flag_over (suc n) true = suc n

-- the record of a row
unfoldable pub record_in : List ℕ → SessionRecord
record_in b = record { tep = get_or b 0 0; role = get_or b 1 0; identifier = bytes_from 18 b row_identifier_at; secret = bytes_from 32 b row_secret_at }

-- the bytes of a record
unfoldable pub row_of : SessionRecord → List ℕ
row_of s = (s.tep ∷ s.role ∷ []) ++ s.identifier ++ s.secret

-- what a door's bytes say
unfoldable pub position_in : List ℕ → Position
position_in b =
    record {
      door =
          record {
            phase = get_or b 0 0;
            mandatory = is_set (get_or b mandatory_at 0);
            cause = record { reason = get_or b 2 0; place = get_or b 3 0; kind = get_or b 4 0 };
            role = get_or b 5 0;
            tep = get_or b 6 0;
            resumed = is_set (get_or b resumed_at 0);
            own_length = get_or b 8 0;
            peer_length = get_or b 9 0;
            own = bytes_from 40 b own_at;
            peer = bytes_from 40 b peer_at;
            hand =
                record {
                  held = is_set (get_or b held_at 0);
                  session = record { tep = get_or b 11 0; role = get_or b 12 0; identifier = bytes_from 18 b identifier_at; secret = bytes_from 32 b secret_at };
                };
          };
      count = get_or b 13 0;
      rows = bytes_from 4 b row_numbers_at;
    }

-- a door's numbers, its flags written over those of the bytes o
unfoldable pub numbers_of : List ℕ → Position → List ℕ
numbers_of o x =
    x.door.phase
    ∷ flag_over (get_or o mandatory_at 0) x.door.mandatory
    ∷ x.door.cause.reason
    ∷ x.door.cause.place
    ∷ x.door.cause.kind
    ∷ x.door.role
    ∷ x.door.tep
    ∷ flag_over (get_or o resumed_at 0) x.door.resumed
    ∷ x.door.own_length
    ∷ x.door.peer_length
    ∷ flag_over (get_or o held_at 0) x.door.hand.held
    ∷ x.door.hand.session.tep
    ∷ x.door.hand.session.role
    ∷ x.count
    ∷ get_or x.rows 0 0
    ∷ get_or x.rows 1 0
    ∷ get_or x.rows 2 0
    ∷ get_or x.rows 3 0
    ∷ []

-- a door's bytes, written over the bytes o
unfoldable pub bytes_of : List ℕ → Position → List ℕ
bytes_of o x = numbers_of o x ++ x.door.own ++ x.door.peer ++ x.door.hand.session.identifier ++ x.door.hand.session.secret

-- the records of the rows
abbrev pub rows_in : List (List ℕ) → List SessionRecord
rows_in rows = map record_in (take rows_n rows)

-- the unit that the words of marks, the bytes of the rows and the bytes of the doors are
unfoldable pub unit_in : List ℕ → List (List ℕ) → List (List ℕ) → LinkUnit
unit_in marks rows doors = record { marks = take words_n marks; rows = rows_in rows; doors = map position_in (take doors_n doors) }
