-- What an answer comes to, by the tests of the code.
use Rattle.std.specs.Prelude.{ℕ, List, Bool, true, cond, not, ◌&&◌, eqb, length}
use Rattle.eno.specs.Area.{Finding, refused, unreadable, missing, found, finding}
use Rattle.eno.specs.Cause.{numbered, blame}
use Rattle.eno.specs.declared.SessionRecord.{SessionRecord}
use Rattle.suboptions.specs.Summary.{summary_of}
use Rattle.suboptions.specs.declared.Summary.{Summary}
use Rattle.door.specs.Answer.{Answering, plain_for}
use Rattle.tep_choice.specs.Choosing.{chosen_by}

-- why no option was found
abbrev pub missed_as : Finding → Answering
missed_as refused = plain_for (numbered 2)
missed_as (unreadable f) = plain_for (blame (unreadable f))
missed_as missing = plain_for (numbered 2)
missed_as (found i n) = plain_for (numbered 2)

-- by the summary of an option o
unfoldable pub summed_up : Bool → (o list : List ℕ) → List SessionRecord → Summary → Answering
summed_up mandatory o list held s =
    cond s.ill_formed (plain_for (numbered 3))
    (cond (eqb s.role 1) (plain_for (numbered 4))
    (cond (mandatory && not s.aware) (plain_for (numbered 5))
    (chosen_by o s.teps list held)))

-- by an area and the option that was found in it, which has no bytes where none was
unfoldable pub decided_by : Bool → (area o list : List ℕ) → List SessionRecord → Answering
decided_by mandatory area o list held = cond (eqb (length o) 0) (missed_as (finding area true)) (summed_up mandatory o list held (summary_of o))
