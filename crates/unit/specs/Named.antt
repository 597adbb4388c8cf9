-- Demand 2, for lists of calls: what a result names is what the judge says of the option that this door wrote and the SYN that it received; a reason is the judge's, answer's, a second SYN's or a non-SYN's.
use Rattle.std.specs.Prelude.{◌≡◌, List, ℕ, ◌<◌, length, replicate}
use Rattle.std.proofs.Common.{◌∙◌}
use Rattle.std.proofs.Math.Option.{Option, some}
use Rattle.wire.specs.Bytes.{pasted}
use Rattle.eno.specs.Judge.{Way, fresh, resumed, encrypt}
use Rattle.eno.specs.declared.SessionRecord.{SessionRecord}
use Rattle.door.specs.Calls.{result}
use Rattle.unit.specs.Run.{Call}
use Rattle.unit.specs.History.{told_after}
use Rattle.unit.specs.Connections.{Terms, verdict, JudgedBy}

-- the secret: zeros if fresh, that of the record in hand if resumed
abbrev pub Keys : Way → Option SessionRecord → List ℕ → Type 0
Keys fresh hand secret = secret ≡ replicate 32 0
Keys resumed hand secret = (x : SessionRecord) × (hand ≡ some x) × (secret ≡ x.secret)

-- a result that names role, TEP byte and way: they and the transcript are the judge's, and the transcript is what is written
pub record Named (d : ℕ) (cs : List Call) (lent : List ℕ) (role byte : ℕ) (way : Way) (n : ℕ) (secret : List ℕ) : Type 0 where
  pub terms : Terms
  pub by : JudgedBy d cs terms
  pub transcript : List ℕ
  pub verdict_is : verdict terms ≡ encrypt role byte way transcript
  pub length_is : n ≡ length transcript
  pub buffer_is : (told_after d cs (result lent)).buffer ≡ pasted lent 0 transcript
  pub secret_is : Keys way terms.hand secret
