-- The ten calls over the unit, and lists of calls.
use Rattle.std.specs.Prelude.{ℕ, Bool, true, false, cond, List, [], ◌∷◌, ◌++◌, eqb, ltb}
use Rattle.door.specs.Door.{Seen}
use Rattle.door.specs.Outcome.{Reply, refused, done, Outcome}
use Rattle.door.specs.Numbered.{lent_of}
use Rattle.door.specs.Calls.{Ask, outcome}
use Rattle.unit.specs.Numbers.{doors_n}
use Rattle.unit.specs.Unit.{empty_unit, view, is_free, enact}
use Rattle.unit.specs.declared.LinkUnit.{LinkUnit}

-- a call: for a door, any number, or erase, which is for the whole unit
pub data Call : Type 0 where
  on : (door : ℕ) → Ask → Call
  erase : Call

-- all that a call gives back, apart from the unit: its reply and the whole of the lent buffer
pub record Told : Type 0 where
  pub reply : Reply
  pub buffer : List ℕ

pub record Step : Type 0 where
  pub told : Told
  pub unit : LinkUnit

unfoldable pub carried : LinkUnit → ℕ → Outcome → Step
carried u d o = record { told = record { reply = o.reply; buffer = o.buffer }; unit = enact u d o.door o.effect }

-- number 1: a door that is not ours
unfoldable pub step_on : Bool → LinkUnit → ℕ → Ask → Step
step_on false u d a = record { told = record { reply = refused 1; buffer = lent_of a }; unit = u }
step_on true u d a = carried u d (outcome (is_free u) (view u d) a)

unfoldable pub step : LinkUnit → Call → Step
step u (on d a) = step_on (ltb d doors_n) u d a
step u erase = record { told = record { reply = done; buffer = [] }; unit = empty_unit }

-- the unit after a list of calls
unfoldable pub after : LinkUnit → List Call → LinkUnit
after u [] = u
after u (c ∷ cs) = after (step u c).unit cs

-- a call of one door in a run: what the door saw, what was asked, what was given back, what the door sees then
pub record Moment : Type 0 where
  pub before : Seen
  pub ask : Ask
  pub told : Told
  pub then : Seen

unfoldable pub moment : LinkUnit → ℕ → Call → List Moment
moment u d erase = []
moment u d (on e a) = cond (eqb e d) (record { before = view u d; ask = a; told = (step u (on e a)).told; then = view (step u (on e a)).unit d } ∷ []) []

-- the calls of door d in a run, in order
unfoldable pub moments : LinkUnit → ℕ → List Call → List Moment
moments u d [] = []
moments u d (c ∷ cs) = moment u d c ++ moments (step u c).unit d cs

-- strike every call for another door; whole-unit erasures stay
unfoldable pub kept : ℕ → Call → List Call
kept d erase = erase ∷ []
kept d (on e a) = cond (eqb e d) (on e a ∷ []) []

unfoldable pub strike : ℕ → List Call → List Call
strike d [] = []
strike d (c ∷ cs) = kept d c ++ strike d cs
