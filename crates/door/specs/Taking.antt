-- Which record and which TEP are taken, in terms of lists: an offer's record, an answer's TEP and its record.
use Prim.Native.Nat.{ℕ, ◌≤◌, ◌<◌}
use Rattle.std.proofs.Math.Path.{◌≡◌}
use Rattle.std.proofs.Common.{◌∙◌}
use mathlib.Core.List.{List, [], ◌∷◌, ◌++◌}
use Rattle.std.specs.Prelude.{Bool, ◌||◌, ◌⊎◌, ◌↔◌}
use Rattle.std.proofs.Math.Bool.{true, false, ◌&&◌}
use Rattle.std.proofs.Math.Option.{Option, none, some}
use Rattle.wire.specs.Bytes.{pasted}
use Rattle.eno.specs.Area.{syn_option}
use Rattle.eno.specs.Suboption.{Sent, name}
use Rattle.eno.specs.Session.{expected_half, in_hand}
use Rattle.eno.specs.Judge.{is_bad, is_resumption, half_of, teps_of}
use Rattle.eno.specs.Option.{option_with, answered}
use Rattle.eno.specs.Laws.Walk.{Every}
use Rattle.eno.specs.declared.SessionRecord.{SessionRecord}
use Rattle.door.specs.Door.{Seen}
use Rattle.door.specs.Outcome.{Outcome}
use Rattle.door.specs.Calls.{after}

-- x stands in a list
abbrev pub In : {X : Type 0} → X → List X → Type 0
In x [] = ⊥
In x (y ∷ l) = (y ≡ x) ⊎ In x l

-- the first of a list that has a property: none before it has
pub record First {X : Type 0} (P : X → Type 0) (l : List X) (x : X) : Type 0 where
  pub before : List X
  pub behind : List X
  pub splits : l ≡ before ++ x ∷ behind
  pub has : P x
  pub none_before : Every (λ y. P y → ⊥) before

-- the last: none behind it has
pub record Last {X : Type 0} (P : X → Type 0) (l : List X) (x : X) : Type 0 where
  pub before : List X
  pub behind : List X
  pub splits : l ≡ before ++ x ∷ behind
  pub has : P x
  pub none_behind : Every (λ y. P y → ⊥) behind

-- what is taken of the held records, which of them stay, and what is in hand
pub data Takes (P : SessionRecord → Type 0) (held stay : List SessionRecord) (hand : Option SessionRecord) : Type 0 where
  -- none has the property: all stay
  nothing : Every (λ r. P r → ⊥) held → stay ≡ held → hand ≡ none → Takes P held stay hand
  -- the oldest that has it; all others stay, in their order
  oldest : (r : SessionRecord) (f : First P held r) → stay ≡ f.before ++ f.behind → hand ≡ some r → Takes P held stay hand

-- A sent the TEP t once, as x, and not bad
pub record Candidate (o : List ℕ) (t : ℕ) : Type 0 where
  pub sent : Sent
  pub before : List Sent
  pub behind : List Sent
  pub splits : teps_of o ≡ before ++ sent ∷ behind
  pub is_named_lem : name sent ≡ t
  pub once_before : Every (λ y. name y ≡ t → ⊥) before
  pub once_behind : Every (λ y. name y ≡ t → ⊥) behind
  pub not_bad : is_bad sent ≡ false

-- the record r fits: A sent resumption of its TEP, with the half that r expects
pub record Fits (o : List ℕ) (t : ℕ) (r : SessionRecord) : Type 0 where
  pub sent : Candidate o t
  pub resumption : is_resumption sent.sent ≡ true
  pub of_tep : r.tep ≡ t
  pub half : expected_half r ≡ half_of o sent.sent

-- a TEP that can be resumed: a held record fits
pub record Resumable (o : List ℕ) (held : List SessionRecord) (t : ℕ) : Type 0 where
  pub fitting : SessionRecord
  pub is_held_lem : In fitting held
  pub fits : Fits o t fitting

-- the TEP t that is answered and what is taken for it
pub data Answers (o list : List ℕ) (held stay : List SessionRecord) (t : ℕ) (hand : Option SessionRecord) : Type 0 where
  -- the last listed of those that can be resumed, with the oldest record that fits
  resumes : Last (Resumable o held) list t → (r : SessionRecord) (f : First (Fits o t) held r) → stay ≡ f.before ++ f.behind → hand ≡ some r → Answers o list held stay t hand
  -- none can be: the last listed that A sent once and not bad, fresh
  freshly : Every (λ u. Resumable o held u → ⊥) list → Last (Candidate o) list t → stay ≡ held → hand ≡ none → Answers o list held stay t hand

-- an answer to the option of an area that came to x: the TEP and the record that it took, the bytes that it wrote
pub record AnswerTakes (v : Seen) (area : List ℕ) (aware : Bool) (list nonce s : List ℕ) (x : Outcome) : Type 0 where
  pub tep : ℕ
  pub hand : Option SessionRecord
  pub choice : Answers (syn_option area) list v.held (after v x).held tep hand
  pub in_hand_is : in_hand x.door.hand ≡ hand
  pub writes : x.buffer ≡ pasted s 0 (option_with (answered aware tep hand nonce))
