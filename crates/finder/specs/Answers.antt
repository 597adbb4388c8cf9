-- The answers of the finder, in the terms of the definitions.
use Rattle.std.specs.Prelude.{ℕ, ◌≡◌}
use Rattle.std.proofs.Common.{◌∙◌}
use Rattle.eno.specs.Area.{Finding, refused, unreadable, missing, found, Status, says_found, says_none, says_unreadable, says_refused}
use Rattle.finder.specs.declared.FindStatus.{FindStatus}
use Rattle.finder.specs.declared.FindStatus.TheVariants as says

-- document 01's word, and its number where it refuses
abbrev pub status_of : FindStatus → Status
status_of says.Found = says_found
status_of says.Nothing = says_none
status_of (says.Unreadable i k) = says_unreadable (record { place = i; kind = k })
status_of says.Refused = says_refused 2

-- where the part that is handed back begins: at the option, or at the area's start
abbrev pub start_of : Finding → ℕ
start_of refused = 0
start_of (unreadable f) = 0
start_of missing = 0
start_of (found i n) = i
