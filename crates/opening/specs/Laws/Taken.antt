-- The record that is taken of those that are held, if there is one.
use Rattle.std.specs.Prelude.{ℕ, ◌≤◌, ◌<◌, ◌≡◌, List, length, get_or}
use Rattle.std.proofs.Math.Option.{none, some}
use Rattle.std.proofs.Common.{lt-ltb, le-ltb}
use Rattle.eno.specs.declared.SessionRecord.{SessionRecord}
use Rattle.door.specs.Record.{record_at, past_end}

module _ (held : List SessionRecord) (j : ℕ) where
  pub taken_there : j < length held → record_at held j ≡ some (get_or held j past_end)
  unfolding record_at
  taken_there h = simp (lt-ltb _ _ h)

  pub taken_none : length held ≤ j → record_at held j ≡ none
  unfolding record_at
  taken_none h = simp (le-ltb _ _ h)
