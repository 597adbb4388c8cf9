-- What is written is read back to the values: from the bytes that an accepted offer or answer left in the lent buffer, b, a, the TEPs in list order, the half and the nonce.
use Rattle.std.specs.Prelude.{ℕ, ◌+◌, ◌-◌, ◌/◌, ◌%◌, ◌≤◌, ◌<◌, Bool, cond, ◌&&◌, ◌||◌, length, drop}
use Rattle.std.proofs.Math.Path.{◌≡◌}
use Rattle.std.proofs.Common.{◌∙◌}
use mathlib.Core.List.{List, [], ◌∷◌, ◌++◌, map}
use Rattle.std.proofs.Math.Bool.{true, false}
use Rattle.std.proofs.Math.Option.{Option, none, some}
use Rattle.wire.specs.Bytes.{part}
use Rattle.eno.specs.Walk.{listed}
use Rattle.eno.specs.Area.{eno_kind, syn_option, most_area}
use Rattle.eno.specs.AreaGrammar.{TcpOption, with_data, IsArea}
use Rattle.eno.specs.Suboption.{Sent, tep, suboptions, is_ill_formed, global_byte, name}
use Rattle.eno.specs.Session.{sent_half}
use Rattle.eno.specs.Judge.{is_fresh, is_resumption, half_of, teps_of, role_of, aware_of}
use Rattle.eno.specs.ReadBack.{NoEno}
use Rattle.eno.specs.Laws.Walk.{Every}
use Rattle.eno.specs.declared.SessionRecord.{SessionRecord}

-- the TEPs are the listed ones, in list order, each fresh
pub record AllFresh (sent : List Sent) (list : List ℕ) : Type 0 where
  pub names : map name sent ≡ list
  pub are_fresh : Every (λ x. is_fresh x ≡ true) sent

-- they are the listed ones without the record's, in list order, each fresh; and last the record's, whose data are the half that the record sends and the nonce
pub record OneResumed (o : List ℕ) (sent : List Sent) (list : List ℕ) (r : SessionRecord) (nonce : List ℕ) : Type 0 where
  pub listed_before : List ℕ
  pub listed_behind : List ℕ
  pub list_is : list ≡ listed_before ++ r.tep ∷ listed_behind
  pub others : List Sent
  pub resumed : Sent
  pub sent_is : sent ≡ others ++ resumed ∷ []
  pub others_are : AllFresh others (listed_before ++ listed_behind)
  pub resumed_name : name resumed ≡ r.tep
  pub resumption : is_resumption resumed ≡ true
  pub half : half_of o resumed ≡ sent_half r
  pub half_and_nonce : part resumed.start resumed.len o ≡ sent_half r ++ nonce

abbrev pub TepsAre : List ℕ → List Sent → List ℕ → Option SessionRecord → List ℕ → Type 0
TepsAre o sent list none nonce = AllFresh sent list
TepsAre o sent list (some r) nonce = OneResumed o sent list r nonce

-- the option o says what was asked
pub record Says (o : List ℕ) (b : ℕ) (aware : Bool) (list : List ℕ) (hand : Option SessionRecord) (nonce : List ℕ) : Type 0 where
  pub well_formed_lem : is_ill_formed (suboptions o) ≡ false
  -- the global byte: bit 0 is b, bit 1 is a
  pub global_byte_lem : global_byte (listed (suboptions o)) ≡ b + cond aware 2 0
  pub role : role_of o ≡ b
  pub aware_bit_lem : aware_of o ≡ cond aware 1 0
  pub teps_are : TepsAre o (teps_of o) list hand nonce

-- the bytes o say so where they are an area of their own, and among other options, none of them ENO, of an area of at most 40 bytes
pub record ReadBack (o : List ℕ) (b : ℕ) (aware : Bool) (list : List ℕ) (hand : Option SessionRecord) (nonce : List ℕ) : Type 0 where
  pub alone : Says (syn_option o) b aware list hand nonce
  pub among : (area : List ℕ) (before behind : List TcpOption) → length area ≤ most_area → NoEno before → NoEno behind → IsArea area (before ++ with_data eno_kind (drop 2 o) ∷ behind)
      → Says (syn_option area) b aware list hand nonce

-- a record's identifier has 18 bytes
abbrev pub IsWhole : Option SessionRecord → Type 0
IsWhole none = Unit {0}
IsWhole (some r) = length r.identifier ≡ 18
