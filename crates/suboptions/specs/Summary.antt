-- The summary of an option: what the walk finds, by the list of its suboptions.
use Rattle.std.specs.Prelude.{ℕ, ◌+◌, ◌%◌, List, [], ◌∷◌, Bool, true, false, cond, eqb, ltb, length, replicate}
use Rattle.eno.specs.Walk.{Reading, readable, faulty}
use Rattle.eno.specs.Suboption.{Sent, Suboption, suboptions, role_bit, aware_bit, teps}
use Rattle.eno.specs.Judge.{named}
use Rattle.suboptions.specs.declared.Entry.{Entry}
use Rattle.suboptions.specs.declared.Summary.{Summary}

-- never sent
abbrev pub never : Entry
never = record { times = 0; byte = 0; start = 0; len = 0 }

-- a TEP that was sent, by its entry
abbrev pub as_sent : Entry → Sent
as_sent e = record { counted = false; byte = e.byte; start = e.start; len = e.len }

-- sent once more
unfoldable pub again : Entry → Sent → Entry
again e x = record { times = e.times + 1; byte = x.byte; start = x.start; len = x.len }

-- the entry after those sent as listed
unfoldable pub entry_from : Entry → List Sent → Entry
entry_from e [] = e
entry_from e (x ∷ l) = entry_from (again e x) l

-- entries of the TEPs from t on
unfoldable pub entries_from : ℕ → List Entry → List Sent → List Entry
entries_from t [] l = []
entries_from t (e ∷ es) l = entry_from e (named t l) ∷ entries_from (t + 1) es l

-- the four TEPs that the unit knows, 21 to 24
unfoldable pub entries_of : List Sent → List Entry
entries_of l = entries_from 0x21 (replicate 4 never) l

-- nothing is told of an ill-formed option
abbrev pub ill_formed : Summary
ill_formed = record { ill_formed = true; role = 0; aware = false; teps = replicate 4 never }

unfoldable pub summed : Reading (Unit {0}) Suboption → Summary
summed (faulty f) = ill_formed
summed (readable l) = record { ill_formed = false; role = role_bit l; aware = eqb (aware_bit l) 1; teps = entries_of (teps l) }

-- an option's length stands in one byte: more than 255 bytes are no option
unfoldable pub summary_of : List ℕ → Summary
summary_of o = cond (ltb 255 (length o)) ill_formed (summed (suboptions o))
