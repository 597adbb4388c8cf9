-- A door's list of rows after a change, and what becomes of the row that is taken or freed. The number of rows stands for no row.
use Rattle.std.specs.Prelude.{ℕ, suc, ◌-◌, Bool, true, false, cond, ◌&&◌, List, [], ◌∷◌, ◌++◌, Option, Some, None, ltb, get_or, set}
use Rattle.eno.specs.declared.SessionRecord.{SessionRecord}
use Rattle.door.specs.Numbers.{each_n}
use Rattle.door.specs.Door.{no_session}
use Rattle.door.specs.Calls.{cut}
use Rattle.door.specs.declared.Change.{Change}
use Rattle.door.specs.declared.Change.TheVariants as change
use Rattle.unit.specs.Numbers.{rows_n}
use Rattle.unit.specs.Unit.{count_of}
use Rattle.unit.specs.declared.Position.{Position}
use Rattle.row_list.specs.declared.Listing.{Listing}
use Rattle.row_list.specs.declared.RowMark.{RowMark}

-- a change that fits and takes or frees a row
abbrev pub listed : ℕ → Bool → ℕ → List ℕ → Option Listing
listed row used n numbers = Some (record { mark = Some (record { row = row; used = used }); count = n; numbers = numbers })

-- a change that fits and takes or frees none
abbrev pub still : ℕ → List ℕ → Option Listing
still n numbers = Some (record { mark = None; count = n; numbers = numbers })

-- a change that does not fit
abbrev pub unfit : Option Listing
unfit = None

-- one row more, which is in use then
unfoldable pub longer : List ℕ → ℕ → ℕ → Option Listing
longer numbers n row = cond (ltb n each_n && ltb row rows_n) (listed row true (suc n) (set numbers n row)) unfit

-- the j-th row is freed
unfoldable pub shorter : List ℕ → ℕ → ℕ → Option Listing
shorter numbers n j = cond (ltb j n) (listed (get_or numbers j 0) false (n - 1) (cut j numbers ++ 0 ∷ [])) unfit

unfoldable pub listing_of : Position → ℕ → Change → Option Listing
listing_of x free change.Keep = still x.count x.rows
listing_of x free change.Add = longer x.rows (count_of x) free
listing_of x free (change.Remove j) = shorter x.rows (count_of x) j

-- the row that is taken or freed, and whether it is in use then; the number of rows where there is none
abbrev pub marked_row : Option RowMark → ℕ
marked_row None = rows_n
marked_row (Some m) = m.row

abbrev pub marked_used : Option RowMark → Bool
marked_used None = false
marked_used (Some m) = m.used

abbrev pub listed_row : Option Listing → ℕ
listed_row None = rows_n
listed_row (Some n) = marked_row n.mark

abbrev pub listed_used : Option Listing → Bool
listed_used None = false
listed_used (Some n) = marked_used n.mark

-- the row's record: a freed row is zeros
unfoldable pub session_after : Change → SessionRecord → SessionRecord
session_after change.Keep r = r
session_after change.Add r = r
session_after (change.Remove j) r = no_session
