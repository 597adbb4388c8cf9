-- Which records are looked for.
use Rattle.std.specs.Prelude.{ℕ, List, Bool, ◌&&◌, eqb}
use Rattle.wire.specs.Bytes.{part, same_bytes}
use Rattle.eno.specs.Option.{is_listed}
use Rattle.eno.specs.Session.{expected_half}
use Rattle.eno.specs.declared.SessionRecord.{SessionRecord}
use Rattle.door.specs.Record.{is_session}
use Rattle.door_search.specs.declared.Sought.{Sought}
use Rattle.door_search.specs.declared.Sought.TheVariants as sought

-- a record of the TEP t expects the half that stands in the option o at a place
unfoldable pub expects : List ℕ → ℕ → ℕ → SessionRecord → Bool
expects o t at r = eqb r.tep t && same_bytes (expected_half r) (part at 9 o)

-- a record is looked for, by the bytes beside what is looked for
unfoldable pub is_sought : Sought → List ℕ → SessionRecord → Bool
is_sought sought.Listed list r = is_listed r.tep list
is_sought (sought.Expecting t at) o r = expects o t at r
is_sought (sought.Named t) identifier r = is_session t identifier r
