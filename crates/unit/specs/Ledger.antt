-- The ledger of a door: what the pool holds for it, what count tells, and that a record once taken comes back by a store alone.
use Rattle.std.specs.Prelude.{◌≡◌, cond, ℕ, ◌+◌, ◌-◌, ◌≤◌, ◌<◌, eqb}
use Rattle.std.proofs.Common.{◌∙◌}
use Rattle.std.proofs.Math.Bool.{true, false}
use mathlib.Core.List.{List, [], ◌∷◌, ◌++◌}
use Rattle.eno.specs.Session.{in_hand}
use Rattle.eno.specs.declared.SessionRecord.{SessionRecord}
use Rattle.door.specs.Record.{is_session}
use Rattle.door.specs.Outcome.{holds}
use Rattle.door.specs.Records.{is_held}
use Rattle.door.specs.Calls.{Ask, count}
use Rattle.door.specs.Calls as door
use Rattle.unit.specs.Unit.{empty_unit, view}
use Rattle.unit.specs.Run.{Call, on, erase, step, after, moments}
use Rattle.unit.specs.Resumption.{stores}
use Rattle.unit.specs.Entries.{Entry, entry, standing, stored_in, forgotten_in, taken_in}
use Rattle.unit.specs.declared.LinkUnit.{LinkUnit}

-- what a call of door d enters, by what was asked, the reply, and what is in hand then
unfoldable pub entered : LinkUnit → ℕ → Ask → List Entry
entered u d a = entry a (step u (on d a)).told.reply (in_hand (view (step u (on d a)).unit d).door.hand)

-- entries, newest first, after one more call: a call for another door enters nothing, erase begins anew
unfoldable pub entries_after : LinkUnit → ℕ → List Entry → Call → List Entry
entries_after u d es erase = []
entries_after u d es (on e a) = cond (eqb e d) (entered u d a ++ es) es

unfoldable pub entries_from : LinkUnit → ℕ → List Entry → List Call → List Entry
entries_from u d es [] = es
entries_from u d es (c ∷ cs) = entries_from (step u c).unit d (entries_after u d es c) cs

-- the entries of door d over a list of calls from the empty unit, since the last erase
unfoldable pub entries : ℕ → List Call → List Entry
entries d cs = entries_from empty_unit d [] cs

-- its ledger: the records of its accepted stores since the last erase, oldest first, less each later forgotten or taken in hand
abbrev pub ledger : ℕ → List Call → List SessionRecord
ledger d cs = standing (entries d cs)

abbrev pub accepted_stores : ℕ → List Call → ℕ
accepted_stores d cs = stored_in (entries d cs)

abbrev pub accepted_forgets : ℕ → List Call → ℕ
accepted_forgets d cs = forgotten_in (entries d cs)

abbrev pub takings : ℕ → List Call → ℕ
takings d cs = taken_in (entries d cs)

-- what count tells: stores accepted, less forgets accepted, less takings, since the last erase
pub record CountTells (d : ℕ) (cs : List Call) : Type 0 where
  pub reply : (step (after empty_unit cs) (on d count)).told.reply ≡ holds (accepted_stores d cs - accepted_forgets d cs - takings d cs)
  -- where nothing is cut off
  pub no_fewer : accepted_forgets d cs + takings d cs ≤ accepted_stores d cs

-- what holds of a record that a call of door d took in hand, from the unit that the call left on
pub record Consumed (u : LinkUnit) (d : ℕ) (r : SessionRecord) : Type 0 where
  -- no record of its TEP and identifier is held
  pub gone : is_held r.tep r.identifier (view u d).held ≡ false
  -- and, whatever is called, one is held again only after a new accepted store of one
  pub back : (cs : List Call) → is_held r.tep r.identifier (view (after u cs) d).held ≡ true → 0 < stores (is_session r.tep r.identifier) (moments u d cs)
