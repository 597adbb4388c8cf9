-- How the code chooses the TEP of an answer: by the entries of the summary of A's option.
use Rattle.std.specs.Prelude.{ℕ, ◌-◌, List, Bool, cond, not, ◌&&◌, ltb, eqb, length, get_or, Result, Ok, Err}
use Rattle.std.specs.Prelude as p
use Rattle.std.proofs.Math.Option.{Option, none, some}
use Rattle.eno.specs.Cause.{numbered}
use Rattle.eno.specs.Tep.{is_known}
use Rattle.eno.specs.Judge.{is_fresh, is_bad}
use Rattle.eno.specs.declared.SessionRecord.{SessionRecord}
use Rattle.suboptions.specs.Summary.{never, as_sent}
use Rattle.suboptions.specs.declared.Entry.{Entry}
use Rattle.door.specs.Record.{first_that}
use Rattle.door_search.specs.Search.{expects}
use Rattle.door.specs.Answer.{last_that, Choice, Answering, plain_for, with}
use Rattle.eno.specs.declared.Cause.{Cause}
use Rattle.tep_choice.specs.declared.Chosen.{Chosen}

-- a TEP that is answered, and which record is resumed
abbrev pub chosen : ℕ → ℕ → Choice
chosen t j = record { tep = t; at = j }

-- what an answer comes to
abbrev pub decision_of : Result Chosen Cause → Answering
decision_of (Err n) = plain_for n
decision_of (Ok c) = with (chosen c.tep c.at)

-- what a search for the TEP comes to: 6 where it finds none
abbrev pub chosen_or_none : p.Option Chosen → Answering
chosen_or_none p.None = plain_for (numbered 6)
chosen_or_none (p.Some c) = with (chosen c.tep c.at)

-- the entry of the TEP t; never sent where the unit does not know it
unfoldable pub entry_of : List Entry → ℕ → Entry
entry_of es t = cond (is_known t) (get_or es (t - 0x21) never) never

-- sent once and not bad
unfoldable pub candidate_by : Entry → Bool
candidate_by e = eqb e.times 1 && not (is_bad (as_sent e))

-- the oldest record that can be resumed with the TEP t; the number of records where there is none
unfoldable pub fitting_by : List ℕ → ℕ → Entry → List SessionRecord → ℕ
fitting_by o t e held = cond (candidate_by e && not (is_fresh (as_sent e))) (first_that (expects o t e.start) held) (length held)

unfoldable pub resumable_by : List ℕ → List Entry → List SessionRecord → ℕ → Bool
resumable_by o es held t = ltb (fitting_by o t (entry_of es t) held) (length held)

unfoldable pub is_candidate_by : List Entry → ℕ → Bool
is_candidate_by es t = candidate_by (entry_of es t)

-- the answer for the last TEP that can be resumed, if there is one
unfoldable pub resumed_by : List ℕ → List Entry → List SessionRecord → Option ℕ → Answering
resumed_by o es held none = plain_for (numbered 6)
resumed_by o es held (some t) = with (chosen t (fitting_by o t (entry_of es t) held))

unfoldable pub last_resumed : List ℕ → List Entry → List ℕ → List SessionRecord → Answering
last_resumed o es list held = resumed_by o es held (last_that (resumable_by o es held) list)

-- and for the last candidate, fresh
unfoldable pub fresh_by : List SessionRecord → Option ℕ → Answering
fresh_by held none = plain_for (numbered 6)
fresh_by held (some t) = with (chosen t (length held))

unfoldable pub last_fresh : List Entry → List ℕ → List SessionRecord → Answering
last_fresh es list held = fresh_by held (last_that (is_candidate_by es) list)

-- the first if there is one, else the second
unfoldable pub first_or : Answering → Answering → Answering
first_or (plain_for n) a = a
first_or (with c) a = with c

unfoldable pub chosen_by : List ℕ → List Entry → List ℕ → List SessionRecord → Answering
chosen_by o es list held = first_or (last_resumed o es list held) (last_fresh es list held)
