-- What each call of a door does with the records that the door holds, beside what it enters in the ledger.
use Rattle.std.specs.Prelude.{◌≡◌, Bool, false, ◌||◌, List, [], ◌∷◌, ℕ, ◌≤◌, ◌<◌, length, get_or}
use Rattle.std.proofs.Common.{◌∙◌}
use Rattle.std.proofs.Math.Option.{some}
use Rattle.eno.specs.Session.{in_hand}
use Rattle.eno.specs.declared.SessionRecord.{SessionRecord}
use Rattle.door.specs.Door.{Seen}
use Rattle.door.specs.Record.{past_end, first_that, is_session}
use Rattle.door.specs.Outcome.{Outcome, keep, add, remove}
use Rattle.door.specs.Records.{is_held, is_in_hand}
use Rattle.door.specs.Calls.{Ask}
use Rattle.door.specs.Calls as door
use Rattle.door.specs.declared.Door.{Door}
use Rattle.unit.specs.Resumption.{one, in_hand_that, accepted_by}
use Rattle.unit.specs.Entries.{Entry, stored, forgotten, taken, entry}

abbrev pub entry_of : Ask → Outcome → List Entry
entry_of q x = entry q x.reply (in_hand x.door.hand)

-- nothing new comes in hand
abbrev pub NoneNew : Door → Door → Type 0
NoneNew d e = (p : SessionRecord → Bool) → in_hand_that p (in_hand e.hand) ≤ in_hand_that p (in_hand d.hand)

-- a call leaves the records, or adds one that is not there, or removes one by TEP and identifier, or takes one in hand
pub data Deed (v : Seen) (q : Ask) (x : Outcome) : Type 0 where
  leaves : x.effect ≡ keep → NoneNew v.door x.door → entry_of q x ≡ [] → Deed v q x
  adds : (s : SessionRecord) → x.effect ≡ add s → x.door ≡ v.door → entry_of q x ≡ stored s ∷ [] → ((p : SessionRecord → Bool) → accepted_by p q x.reply ≡ one (p s))
      → is_held s.tep s.identifier v.held ≡ false → is_in_hand s.tep s.identifier (in_hand v.door.hand) ≡ false → Deed v q x
  forgets : (t : ℕ) (identifier : List ℕ) → x.effect ≡ remove (first_that (is_session t identifier) v.held) → first_that (is_session t identifier) v.held < length v.held
      → x.door ≡ v.door → entry_of q x ≡ forgotten t identifier ∷ [] → Deed v q x
  takes : (j : ℕ) → j < length v.held → x.effect ≡ remove j → in_hand x.door.hand ≡ some (get_or v.held j past_end) → entry_of q x ≡ taken (get_or v.held j past_end) ∷ [] → Deed v q x
