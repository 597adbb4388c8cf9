-- Demand 2, for lists of calls: a record that a door holds, has in hand or resumes with is one that it stored, in every field.
use Rattle.std.specs.Prelude.{◌≡◌, ◌&&◌, List, ◌∷◌, ◌++◌, ℕ, ◌≤◌, ◌<◌}
use Rattle.std.proofs.Common.{◌∙◌}
use Rattle.std.proofs.Math.Option.{Option, none, some}
use Rattle.eno.specs.Laws.Walk.{Every}
use Rattle.eno.specs.declared.SessionRecord.{SessionRecord}
use Rattle.door.specs.Outcome.{done}
use Rattle.door.specs.Calls.{Ask, store}
use Rattle.unit.specs.Run.{Call, on, erase}
use Rattle.unit.specs.History.{told_after}
use Rattle.unit.specs.Openings.{Resumed}

abbrev pub NotErase : Call → Type 0
NotErase (on d a) = Unit {0}
NotErase erase = ⊥

-- the store of a record
abbrev pub storing : SessionRecord → Ask
storing r = store r.tep r.role r.identifier r.secret

-- among the calls cs is an accepted store of r by door d, with no erase since
pub record AcceptedStore (d : ℕ) (cs : List Call) (r : SessionRecord) : Type 0 where
  pub before : List Call
  pub later : List Call
  pub are : cs ≡ before ++ on d (storing r) ∷ later
  pub accepted : (told_after d before (storing r)).reply ≡ done
  pub not_erased : Every NotErase later

-- a result that says resumed: the record that it resumes with, whose secret it gives, is that of an accepted store, its original role and identifier too
pub record ResumedFromStore (d : ℕ) (cs : List Call) (secret : List ℕ) : Type 0 where
  pub is_resumed_lem : Resumed d cs secret
  pub by_store : AcceptedStore d cs is_resumed_lem.with_record

-- a property of the record in hand, if any
abbrev pub OfHand : (SessionRecord → Type 0) → Option SessionRecord → Type 0
OfHand P none = Unit {0}
OfHand P (some r) = P r
