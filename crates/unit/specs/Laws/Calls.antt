-- What the calls of a door keep to: an effect fits what the door sees, and number 6 is the door's own affair.
use Rattle.std.specs.Prelude.{◌≡◌, ◌≢◌, Bool, true, false, ◌&&◌, ◌||◌, List, [], ◌∷◌, ℕ, ◌+◌, ◌≤◌, ◌<◌, length}
use Rattle.std.proofs.Common.{◌∙◌}
use Rattle.door.specs.Numbers.{each_n}
use Rattle.door.specs.Door.{Seen}
use Rattle.door.specs.Outcome.{Effect, keep, add, remove}
use Rattle.door.specs.Receive as r

-- an effect fits: a record is added only where fewer are held and a row is free; one that is removed is held
abbrev pub Fits : Bool → Seen → Effect → Type 0
Fits free v keep = Unit {0}
Fits free v (add r) = (length v.held < each_n) × (free ≡ true)
Fits free v (remove j) = j < length v.held

-- all tests of a list failed
abbrev pub Pass : List (Bool × ℕ) → Type 0
Pass [] = Unit {0}
Pass (t ∷ l) = (t.0 ≡ false) × Pass l
