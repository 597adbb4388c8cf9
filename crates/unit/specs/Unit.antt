-- The unit as the code has it: what a door sees of it, and what a call does to it. Odd values are read as stated here.
use Rattle.std.specs.Prelude.{ℕ, zero, suc, ◌+◌, ◌-◌, min, Bool, List, [], ◌∷◌, ◌++◌, map, get_or, take, set, replicate, ltb}
use Rattle.eno.specs.declared.SessionRecord.{SessionRecord}
use Rattle.door.specs.Numbers.{each_n}
use Rattle.door.specs.Door.{Seen, no_session, idle_door}
use Rattle.door.specs.Outcome.{Effect, keep, add, remove}
use Rattle.door.specs.Calls.{cut}
use Rattle.door.specs.declared.Door.{Door}
use Rattle.unit.specs.Numbers.{doors_n, rows_n, words_n}
use Rattle.unit.specs.Marks.{marks_in, with_mark}
use Rattle.unit.specs.declared.Position.{Position}
use Rattle.unit.specs.declared.LinkUnit.{LinkUnit}

-- the empty unit: all doors Idle, no record held or in hand
unfoldable pub idle_position : Position
idle_position = record { door = idle_door; count = 0; rows = replicate each_n 0 }

unfoldable pub empty_unit : LinkUnit
empty_unit = record { marks = replicate words_n 0; rows = replicate rows_n no_session; doors = replicate doors_n idle_position }

-- past the last door an idle one stands
abbrev pub past_position : Position
past_position = idle_position

abbrev pub position_at : LinkUnit → ℕ → Position
position_at u d = get_or u.doors d past_position

-- how many rows a door lists; a count above the most reads as the most
abbrev pub count_of : Position → ℕ
count_of x = min x.count each_n

-- the numbers of a door's rows, oldest first
abbrev pub mine : Position → List ℕ
mine x = take (count_of x) x.rows

-- the records of rows; a row number past the last reads as the empty record
unfoldable pub records_at : List SessionRecord → List ℕ → List SessionRecord
records_at rows is = map (λ i. get_or rows i no_session) is

-- what door d sees
abbrev pub view : LinkUnit → ℕ → Seen
view u d = record { door = (position_at u d).door; held = records_at u.rows (mine (position_at u d)) }

-- of a list of marks the lowest free row, whose mark is 0; the number of rows if there is none
unfoldable pub or_next : ℕ → ℕ → ℕ
or_next zero n = zero
or_next (suc mark) n = suc n

unfoldable pub first_free : List ℕ → ℕ
first_free [] = zero
first_free (m ∷ marks) = or_next m (first_free marks)

abbrev pub lowest_free : LinkUnit → ℕ
lowest_free u = first_free (marks_in u.marks)

-- whether a row is free
abbrev pub is_free : LinkUnit → Bool
is_free u = ltb (lowest_free u) rows_n

-- a call's effect on marks, rows and the door's list: a record is added in row free, and its mark set; a freed row is zeros, and its mark cleared
unfoldable pub marks_after : ℕ → List ℕ → Position → Effect → List ℕ
marks_after free words x keep = words
marks_after free words x (add r) = with_mark words free 1
marks_after free words x (remove j) = with_mark words (get_or (mine x) j 0) 0

unfoldable pub rows_after : ℕ → List SessionRecord → Position → Effect → List SessionRecord
rows_after free rows x keep = rows
rows_after free rows x (add r) = set rows free r
rows_after free rows x (remove j) = set rows (get_or (mine x) j 0) no_session

unfoldable pub position_after : ℕ → Position → Door → Effect → Position
position_after free x d keep = record { door = d; count = x.count; rows = x.rows }
position_after free x d (add r) = record { door = d; count = suc (count_of x); rows = set x.rows (count_of x) free }
position_after free x d (remove j) = record { door = d; count = count_of x - 1; rows = cut j x.rows ++ 0 ∷ [] }

-- the unit after an effect of door d, which leaves the door's own data at l: the row taken is the lowest free one
unfoldable pub enact : LinkUnit → ℕ → Door → Effect → LinkUnit
enact u d l e =
    record {
      marks = marks_after (lowest_free u) u.marks (position_at u d) e;
      rows = rows_after (lowest_free u) u.rows (position_at u d) e;
      doors = set u.doors d (position_after (lowest_free u) (position_at u d) l e);
    }
