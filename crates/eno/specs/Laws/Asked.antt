-- What an offer or an answer may ask: suboptions that may stand as they do, in an option of at most 40 bytes.
use Prim.Native.Nat.{ℕ, ◌+◌, ◌≤◌, ◌<◌}
use Rattle.std.specs.Prelude.{◌≡◌, ◌&&◌, ◌||◌}
use Rattle.std.proofs.Common.{◌∙◌}
use mathlib.Core.List.{List, ◌∷◌, ◌++◌}
use Rattle.std.proofs.Math.Option.{Option, none, some}
use Rattle.std.proofs.Math.ListN.{length}
use Rattle.eno.specs.Area.{most_area}
use Rattle.eno.specs.Option.{Content, option_with}
use Rattle.eno.specs.AreaGrammar.{AreProper}
use Rattle.eno.specs.SuboptionGrammar as sub
use Rattle.eno.specs.Laws.Walk.{Every}
use Rattle.eno.specs.declared.SessionRecord.{SessionRecord}

-- a TEP that the unit knows
abbrev pub IsTep : ℕ → Type 0
IsTep t = (0x21 ≤ t) × (t ≤ 0x24)

-- a record in hand is of a TEP that the unit knows
abbrev pub OfTep : Option SessionRecord → Type 0
OfTep none = Unit {0}
OfTep (some r) = IsTep r.tep

-- what may be asked: suboptions that may stand so, in an option of at most 40 bytes
pub record MayBeAsked (asked : List Content) : Type 0 where
  pub proper : sub.AreProper asked
  pub short : length (option_with asked) ≤ most_area

-- what the tests of an offer tell
pub record Fits (b : ℕ) (list : List ℕ) (hand : Option SessionRecord) (nonce : List ℕ) : Type 0 where
  pub one : b ≤ 1
  pub four : length list ≤ 4
  pub eight : length nonce ≤ 8
  pub are_teps : Every IsTep list
  pub of_these : OfTep hand
