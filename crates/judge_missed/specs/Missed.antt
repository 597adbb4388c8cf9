-- Why two options were not both found, by what the finder says of this end's area and of the other side's.
use Rattle.std.specs.Prelude.{ℕ, List, true, cond, eqb, length}
use Rattle.eno.specs.Area.{Status, says_found, says_none, says_unreadable, says_refused, status, finding}
use Rattle.judgement.specs.Answers.{without_transcript}
use Rattle.judgement.specs.declared.Reason.TheVariants as reason
use Rattle.judgement.specs.declared.Verdict.{Verdict}
use Rattle.judgement.specs.declared.Verdict.TheVariants as verdict
use Rattle.judgement.specs.declared.Judgement.{Judgement}

abbrev pub unreadable_as : (place kind : ℕ) → Verdict
unreadable_as place kind = verdict.Plain (reason.Unreadable place kind)

abbrev pub missed_peer : Status → Verdict
missed_peer says_found = verdict.Plain reason.NoOption
missed_peer says_none = verdict.Plain reason.NoOption
missed_peer (says_unreadable f) = unreadable_as f.place f.kind
missed_peer (says_refused n) = verdict.Refused

abbrev pub unless_refused : Status → Verdict → Verdict
unless_refused says_found v = v
unless_refused says_none v = v
unless_refused (says_unreadable f) v = v
unless_refused (says_refused n) v = verdict.Refused

abbrev pub missed_as : Status → Status → Verdict
missed_as says_found p = missed_peer p
missed_as says_none p = missed_peer p
missed_as (says_unreadable f) p = unless_refused p (unreadable_as f.place f.kind)
missed_as (says_refused n) p = verdict.Refused

-- what the finder says of an area, beside the option that was found in it: found where that has bytes
unfoldable pub status_by : (area option : List ℕ) → Status
status_by area option = cond (eqb (length option) 0) (status (finding area true)) says_found

unfoldable pub not_found : (ownArea own peerArea peer : List ℕ) → Judgement
not_found ownArea own peerArea peer = without_transcript (missed_as (status_by ownArea own) (status_by peerArea peer))
