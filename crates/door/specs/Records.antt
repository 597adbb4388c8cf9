-- Store, forget and count: the records of a door, in any phase.
use Rattle.std.specs.Prelude.{ℕ, List, [], ◌∷◌, Bool, true, false, cond, not, ◌&&◌, ◌||◌, ltb, leb, eqb, length}
use Rattle.std.proofs.Math.Option.{Option, none, some}
use Rattle.eno.specs.Tep.{is_known}
use Rattle.eno.specs.Session.{in_hand}
use Rattle.eno.specs.declared.SessionRecord.{SessionRecord}
use Rattle.door.specs.Numbers.{each_n}
use Rattle.door.specs.Door.{Seen}
use Rattle.door.specs.Record.{first_that, is_session}
use Rattle.door.specs.Outcome.{Outcome, done, holds, keep, add, remove, refusal, unless}

-- the same TEP and identifier held
unfoldable pub is_held : ℕ → List ℕ → List SessionRecord → Bool
is_held t identifier l = ltb (first_that (is_session t identifier) l) (length l)

-- or in hand
abbrev pub is_in_hand : ℕ → List ℕ → Option SessionRecord → Bool
is_in_hand t identifier none = false
is_in_hand t identifier (some r) = is_session t identifier r

-- a record's parts: a known TEP, role 0 or 1, an identifier of 18 and a secret of 32 bytes
unfoldable pub is_record : ℕ → ℕ → List ℕ → List ℕ → Bool
is_record t role identifier secret = is_known t && leb role 1 && eqb (length identifier) 18 && eqb (length secret) 32

-- store adds to the door. A row is free or not: from an empty unit on one is, whenever the door holds fewer than four
unfoldable pub store : Bool → Seen → (t role : ℕ) (identifier secret : List ℕ) → Outcome
store free v t role identifier secret =
    unless
    (refusal (
    (not (is_record t role identifier secret), 3)
    ∷ (leb each_n (length v.held) || not free, 6)
    ∷ (is_held t identifier v.held || is_in_hand t identifier (in_hand v.door.hand), 7)
    ∷ []
    ))
    v.door []
    (record { reply = done; buffer = []; door = v.door; effect = add (record { tep = t; role = role; identifier = identifier; secret = secret }) })

-- forget removes from the door by TEP and identifier
unfoldable pub forget : Seen → (t : ℕ) (identifier : List ℕ) → Outcome
forget v t identifier =
    unless
    (refusal ((not (is_known t && eqb (length identifier) 18), 3) ∷ (not (is_held t identifier v.held), 16) ∷ []))
    v.door []
    (record { reply = done; buffer = []; door = v.door; effect = remove (first_that (is_session t identifier) v.held) })

-- count tells how many a door holds
unfoldable pub count : Seen → Outcome
count v = record { reply = holds (length v.held); buffer = []; door = v.door; effect = keep }
