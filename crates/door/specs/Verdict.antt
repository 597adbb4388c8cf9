-- What a door stores is the judge's verdict, what it sends again is what it sent, and what it drops is zeros.
use Rattle.std.specs.Prelude.{ℕ, ◌-◌, ◌≤◌, Bool, ◌&&◌, ◌||◌, ◌↔◌, length}
use Rattle.std.proofs.Math.Path.{◌≡◌}
use Rattle.std.proofs.Common.{◌∙◌}
use mathlib.Core.List.{List, ◌∷◌, ◌++◌}
use Rattle.std.proofs.Math.Bool.{true, false}
use Rattle.wire.specs.Bytes.{pasted}
use Rattle.eno.specs.Area.{syn_option}
use Rattle.eno.specs.Judge.{Way, is_resumed}
use Rattle.eno.specs.Option.{option_with, answered}
use Rattle.eno.specs.declared.SessionRecord.{SessionRecord}
use Rattle.door.specs.Door.{Phase, crossed, opened, transcript_of}
use Rattle.door.specs.Record.{record_at}
use Rattle.door.specs.Outcome.{Outcome, written, keep}
use Rattle.door.specs.Answer.{Choice, answered_door}
use Rattle.door.specs.declared.Door.{Door}

-- the option that an answer writes, and the door that it leaves
abbrev pub answer_option : Bool → List ℕ → List SessionRecord → Choice → List ℕ
answer_option aware nonce held c = option_with (answered aware c.tep (record_at held c.at) nonce)

abbrev pub answer_door : Bool → Bool → List ℕ → List ℕ → List SessionRecord → Choice → Door
answer_door aware mandatory area nonce held c = answered_door (answer_option aware nonce held c) (syn_option area) mandatory c.tep (record_at held c.at)

-- the option o written to the lent buffer s, and nothing changed
abbrev pub resent : Door → List ℕ → List ℕ → Outcome
resent d o s = record { reply = written (length o); buffer = pasted s 0 o; door = d; effect = keep }

-- the phase after a SYN that is judged: Open if it carries an ACK, else Crossed
abbrev pub phase_after : Bool → Phase
phase_after true = opened
phase_after false = crossed

-- a door holds a verdict
pub record Stored (e : Door) (role byte : ℕ) (way : Way) (transcript : List ℕ) : Type 0 where
  pub role_is : e.role ≡ role
  pub byte_is : e.tep ≡ byte
  pub way_is : e.resumed ≡ is_resumed way
  pub transcript_is : transcript_of e ≡ transcript
