-- What an answer's choice is: a listed TEP that A sent once and not bad, and the record that is resumed with it, if any.
use Prim.Native.Nat.{ℕ, ◌≤◌, ◌<◌}
use Rattle.std.specs.Prelude.{◌≡◌, List, ◌∷◌, true, false, ◌&&◌, ◌||◌, length, get_or}
use Rattle.std.proofs.Common.{◌∙◌}
use Rattle.std.proofs.Math.Option.{none, some}
use Rattle.wire.specs.Bytes.{same_bytes}
use Rattle.eno.specs.Suboption.{Sent}
use Rattle.eno.specs.Session.{expected_half}
use Rattle.eno.specs.Judge.{is_bad, is_resumption, half_of, named, once, teps_of}
use Rattle.eno.specs.Option.{is_listed}
use Rattle.eno.specs.declared.SessionRecord.{SessionRecord}
use Rattle.door.specs.Record.{past_end, record_at}
use Rattle.door.specs.Answer.{Choice}

-- A sent the TEP t once, and not bad
pub record SentWell (o : List ℕ) (t : ℕ) : Type 0 where
  pub sent : Sent
  pub is_once : once (named t (teps_of o)) ≡ some sent
  pub not_bad : is_bad sent ≡ false

-- a choice is fresh, or resumes a record that fits
pub data Chosen (o list : List ℕ) (held : List SessionRecord) (c : Choice) : Type 0 where
  freshly : is_listed c.tep list ≡ true → SentWell o c.tep → record_at held c.at ≡ none → Chosen o list held c
  resuming : is_listed c.tep list ≡ true → (w : SentWell o c.tep) → is_resumption w.sent ≡ true → c.at < length held → (r : SessionRecord)
      → get_or held c.at past_end ≡ r → record_at held c.at ≡ some r → r.tep ≡ c.tep → same_bytes (expected_half r) (half_of o w.sent) ≡ true → Chosen o list held c
