-- What the pool's functions leave, in every byte, for any door number, any row number and any content: a door or a row put in its place, what a door sees, and a call's effect carried out.
use Rattle.std.specs.Prelude.{ℕ, ◌-◌, ◌≤◌, ◌<◌, ◌≡◌, Bool, false, cond, List, [], ◌++◌, Some, None, ltb, length, get_or, take, set, replicate}
use Rattle.eno.specs.declared.SessionRecord.{SessionRecord}
use Rattle.door.specs.Numbers.{each_n}
use Rattle.door.specs.Door.{Seen, no_session}
use Rattle.door.specs.declared.Change.{Change}
use Rattle.door.specs.declared.Door.{Door}
use Rattle.door.specs.declared.View.{View}
use Rattle.unit.specs.Numbers.{doors_n, rows_n, words_n}
use Rattle.unit.specs.Marks.{with_mark, mark_for}
use Rattle.unit.specs.Unit.{idle_position, empty_unit, count_of, mine, records_at}
use Rattle.unit.specs.declared.Position.{Position}
use Rattle.unit_bytes.specs.Layout.{row_size, door_size}
use Rattle.unit_bytes.specs.Content.{record_in, row_of, position_in, bytes_of, rows_in, unit_in}
use Rattle.unit_bytes.specs.Tells.{FlagsOver, Same}
use Rattle.row_list.specs.Listed.{listing_of, listed_row, listed_used, session_after}
use Rattle.row_list.specs.declared.Listing.{Listing}

-- every mark and every byte is zero, which is the empty unit
pub record Erased (marks : List ℕ) (rows doors : List (List ℕ)) : Type 0 where
  pub marks_zero : marks ≡ replicate words_n 0
  pub rows_zero : rows ≡ replicate rows_n (replicate row_size 0)
  pub doors_zero : doors ≡ replicate doors_n (replicate door_size 0)
  pub empty : unit_in marks rows doors ≡ empty_unit

-- a door's position; past the last an idle one
unfoldable pub position_from : List (List ℕ) → ℕ → Position
position_from doors d = cond (ltb d doors_n) (position_in (get_or doors d [])) idle_position

-- a door put in its place: its bytes, written over those that stood there, which say the position; all else is as it was
pub record Put (before after : List (List ℕ)) (d : ℕ) (x : Position) : Type 0 where
  pub placed : after ≡ cond (ltb d doors_n) (set before d (bytes_of (get_or before d []) x)) before
  pub says : d < doors_n → position_in (bytes_of (get_or before d []) x) ≡ x
  pub size : d < doors_n → length (get_or before d []) ≡ door_size

-- the bytes of every other door are as they were, and the door's own where they say the same; each flag of its own is 0, 1 or as it was
pub record DoorsKept (d : ℕ) (before after : List (List ℕ)) : Type 0 where
  pub others : (i : ℕ) → (i ≡ d → ⊥) → get_or after i [] ≡ get_or before i []
  pub own : position_in (get_or after d []) ≡ position_in (get_or before d []) → get_or after d [] ≡ get_or before d []
  pub flags : FlagsOver (get_or before d []) (get_or after d [])

-- a row and its mark put in their places: the row's bytes say the record; all else is as it was
pub record PutRow (marks marks' : List ℕ) (rows rows' : List (List ℕ)) (i : ℕ) (used : Bool) (s : SessionRecord) : Type 0 where
  pub marked : marks' ≡ cond (ltb i rows_n) (with_mark marks i (mark_for used)) marks
  pub placed : rows' ≡ cond (ltb i rows_n) (set rows i (row_of s)) rows
  pub says : record_in (row_of s) ≡ s

-- what a door with this position sees
abbrev pub seen_in : List (List ℕ) → Position → Seen
seen_in rows x = record { door = x.door; held = records_at (rows_in rows) (mine x) }

-- the records of the first i numbers, then zeros
unfoldable pub gathered : List SessionRecord → List ℕ → ℕ → List SessionRecord
gathered rows numbers i = records_at rows (take i numbers) ++ replicate (each_n - i) no_session

-- the same as the code has it: zeros behind the records that the door holds
abbrev pub view_in : List (List ℕ) → Position → View
view_in rows x = record { door = x.door; count = x.count; held = gathered (rows_in rows) x.rows (count_of x) }

abbrev pub position_of : Door → ℕ → List ℕ → Position
position_of l n numbers = record { door = l; count = n; rows = numbers }

-- an effect carried out on a door with position x, where free is the row that a record is added in: the row that is taken or freed, then the door's list and data; a change that does
-- not fit, and one of no door, changes nothing
pub record Enacts (marks marks' : List ℕ) (rows rows' doors doors' : List (List ℕ)) (d : ℕ) (x : Position) (free : ℕ) (l : Door) (c : Change) (r : SessionRecord) : Type 0 where
  pub past : doors_n ≤ d → Same marks' marks rows' rows doors' doors
  pub row : d < doors_n → PutRow marks marks' rows rows' (listed_row (listing_of x free c)) (listed_used (listing_of x free c)) (session_after c r)
  pub fit : d < doors_n → (n : Listing) → listing_of x free c ≡ Some n → Put doors doors' d (position_of l n.count n.numbers)
  pub unfit : d < doors_n → listing_of x free c ≡ None → doors' ≡ doors
  pub size : d < doors_n → length x.rows ≡ each_n
