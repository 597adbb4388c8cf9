-- What an answer comes to, by each test of the code.
use Prim.Native.Nat.{ℕ}
use mathlib.Core.Path.{◌≡◌, refl, sym, ◌∙◌, ap}
use mathlib.Core.List.{List}
use mathlib.Core.Bool.{Bool, true, false, not, ◌&&◌}
use borrow.Author.Tests.{eq-eqb, ne_eqb}
use lib.ListN.{length}
use Rattle.eno.specs.Area.{Finding, refused, unreadable, missing, found, Status, says_found, says_none, says_unreadable, says_refused, status, finding}
use Rattle.eno.specs.Cause.{numbered, blame}
use Rattle.eno.specs.declared.SessionRecord.{SessionRecord}
use Rattle.finder.specs.Answers.{status_of}
use Rattle.finder.specs.declared.FindStatus.{FindStatus}
use Rattle.suboptions.specs.Summary.{summary_of}
use Rattle.suboptions.specs.declared.Summary.{Summary}
use Rattle.door.specs.Answer.{Answering, plain_for}
use Rattle.tep_choice.specs.Choosing.{chosen_by}
use Rattle.deciding.specs.Steps.{missed_as, summed_up, decided_by}

-- what the finder's companion says of an area without an option
abbrev pub missed_by : Status → Answering
missed_by (says_refused n) = plain_for (numbered 2)
missed_by (says_unreadable f) = plain_for (blame (unreadable f))
missed_by says_none = plain_for (numbered 2)
missed_by says_found = plain_for (numbered 2)

missed_by_lem : (f : Finding) → missed_by (status f) ≡ missed_as f
unfolding status
missed_by_lem refused = refl
missed_by_lem (unreadable y) = refl
missed_by_lem missing = refl
missed_by_lem (found i n) = refl

pub missed_told : (f : Finding) (x : FindStatus) → status_of x ≡ status f → (a : Answering) → a ≡ missed_by (status_of x) → a ≡ missed_as f
missed_told f x e a w = w ∙ (ap missed_by e ∙ missed_by_lem f)
