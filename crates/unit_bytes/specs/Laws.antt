-- Laws of a row's and a door's bytes: flags, parts, pieces written one behind the other, and that what is written is read back. Assumes nothing.
use Rattle.std.specs.Prelude.{ℕ, ◌+◌, ◌≤◌, ◌<◌, ◌≡◌, Bool, ◌⊎◌, length, get_or}
use Rattle.std.proofs.Common.{◌∙◌}
use mathlib.Core.List.{List, [], ◌∷◌, ◌++◌}
use Rattle.eno.specs.declared.SessionRecord.{SessionRecord}
use Rattle.unit.specs.declared.Position.{Position}

-- what is read from a row's and a door's bytes
abbrev pub record_of : ℕ → ℕ → List ℕ → List ℕ → SessionRecord
record_of t r i s = record { tep = t; role = r; identifier = i; secret = s }

abbrev pub place_of : List ℕ → Bool → Bool → Bool → List ℕ → List ℕ → SessionRecord → List ℕ → Position
place_of b m r h own peer s rows =
    record {
      door =
          record {
            phase = get_or b 0 0;
            mandatory = m;
            cause = record { reason = get_or b 2 0; place = get_or b 3 0; kind = get_or b 4 0 };
            role = get_or b 5 0;
            tep = get_or b 6 0;
            resumed = r;
            own_length = get_or b 8 0;
            peer_length = get_or b 9 0;
            own = own;
            peer = peer;
            hand = record { held = h; session = s };
          };
      count = get_or b 13 0;
      rows = rows;
    }

-- the numbers of a door, with the flags as bytes
abbrev pub numbers_with : Position → ℕ → ℕ → ℕ → List ℕ
numbers_with x m r h =
    x.door.phase
    ∷ m
    ∷ x.door.cause.reason
    ∷ x.door.cause.place
    ∷ x.door.cause.kind
    ∷ x.door.role
    ∷ x.door.tep
    ∷ r
    ∷ x.door.own_length
    ∷ x.door.peer_length
    ∷ h
    ∷ x.door.hand.session.tep
    ∷ x.door.hand.session.role
    ∷ x.count
    ∷ get_or x.rows 0 0
    ∷ get_or x.rows 1 0
    ∷ get_or x.rows 2 0
    ∷ get_or x.rows 3 0
    ∷ []

-- arrays of a record's and of a door's sizes
pub record SizedRecord (s : SessionRecord) : Type 0 where
  pub identifier_size : length s.identifier ≡ 18
  pub secret_size : length s.secret ≡ 32

pub record SizedPosition (x : Position) : Type 0 where
  pub own_size : length x.door.own ≡ 40
  pub peer_size : length x.door.peer ≡ 40
  pub hand_size : SizedRecord x.door.hand.session
  pub rows_size : length x.rows ≡ 4
