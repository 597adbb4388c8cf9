-- After every list of calls: where a result says resumed and the halves of the record in hand differ, the terms by that result are the record's own role and the nonces that the two options carry.
use Rattle.std.specs.Prelude.{ℕ, ◌+◌, ◌-◌, ◌%◌, ◌≤◌, ◌<◌, ◌≡◌, List, [], ◌∷◌, ◌++◌, cond, ◌&&◌, ◌||◌, eqb}
use Rattle.std.proofs.Common.{◌∙◌}
use Rattle.std.proofs.Math.Option.{some}
use Rattle.wire.specs.Bytes.{part}
use Rattle.eno.specs.declared.SessionRecord.{SessionRecord}
use Rattle.eno.specs.Area.{syn_option}
use Rattle.eno.specs.Suboption.{Sent}
use Rattle.eno.specs.Session.{sent_half, expected_half}
use Rattle.eno.specs.Judge.{named, teps_of}
use Rattle.door.specs.Calls.{result}
use Rattle.unit.specs.Run.{Call}
use Rattle.unit.specs.History.{told_after}
use Rattle.unit.specs.Connections.{Terms, JudgedBy}
use Rattle.key_terms.specs.Calls.{given, resumption_terms}

-- the first n bytes of the lent buffer after the result: the transcript
abbrev pub transcript_in : ℕ → List Call → List ℕ → ℕ → List ℕ
transcript_in d cs lent n = part 0 n (told_after d cs (result lent)).buffer

-- what the connection of door d is keyed by: it was judged by two options, each sent the TEP once, and the data of each are a half of the identifier and a nonce
pub record Keyed (d : ℕ) (cs : List Call) (lent : List ℕ) (role byte n : ℕ) (x : SessionRecord) : Type 0 where
  -- what the connection was judged by, with x in hand: the option that this end wrote, and the area that it received
  pub by : Terms
  pub judged_by : JudgedBy d cs by
  pub in_hand_lem : by.hand ≡ some x
  -- the suboptions, and the nonces behind the halves
  pub mine : Sent
  pub theirs : Sent
  pub nonce : List ℕ
  pub other : List ℕ
  pub mine_is : named (byte % 128) (teps_of (syn_option by.own)) ≡ mine ∷ []
  pub theirs_is : named (byte % 128) (teps_of (syn_option by.area)) ≡ theirs ∷ []
  pub mine_data : part mine.start mine.len (syn_option by.own) ≡ sent_half x ++ nonce
  pub theirs_data : part theirs.start theirs.len (syn_option by.area) ≡ expected_half x ++ other
  -- the terms: the record's own role, then the nonce of the end whose original role was A, then the other's
  pub gives : resumption_terms role byte x.identifier (transcript_in d cs lent n)
      ≡ given (some (record { original = x.role; nonce_a = cond (eqb x.role 0) nonce other; nonce_b = cond (eqb x.role 0) other nonce }))
