-- Records that a door holds, oldest first.
use Rattle.std.specs.Prelude.{ℕ, zero, suc, List, [], ◌∷◌, Bool, true, false, cond, ◌&&◌, ◌||◌, ltb, eqb, length, get_or}
use Rattle.std.proofs.Math.Option.{Option, none, some}
use Rattle.wire.specs.Bytes.{same_bytes}
use Rattle.eno.specs.declared.SessionRecord.{SessionRecord}

-- which of a list is the first that passes a test; the list's length where none does
unfoldable pub first_that : (SessionRecord → Bool) → List SessionRecord → ℕ
first_that test [] = 0
first_that test (r ∷ l) = cond (test r) 0 (suc (first_that test l))

-- what stands past the end of a list
abbrev pub past_end : SessionRecord
past_end = record { tep = 0; role = 0; identifier = []; secret = [] }

-- the j-th oldest, if there is one
unfoldable pub record_at : List SessionRecord → ℕ → Option SessionRecord
record_at l j = cond (ltb j (length l)) (some (get_or l j past_end)) none

-- the same TEP and identifier
unfoldable pub is_session : ℕ → List ℕ → SessionRecord → Bool
is_session t identifier r = eqb r.tep t && same_bytes r.identifier identifier
