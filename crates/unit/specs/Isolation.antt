-- Demand 3: what a door is given depends on its own calls and on erasures alone.
use Rattle.std.specs.Prelude.{◌≡◌, ◌≢◌, ℕ, ◌+◌, ◌≤◌, ◌<◌, length}
use Rattle.std.proofs.Common.{◌∙◌}
use Rattle.std.proofs.Math.Bool.{true}
use mathlib.Core.List.{List, [], ◌∷◌, ◌++◌, map}
use Rattle.eno.specs.Session.{in_hand}
use Rattle.door.specs.Numbers.{each_n}
use Rattle.door.specs.Door.{Seen, idle_door}
use Rattle.door.specs.Outcome.{refused}
use Rattle.door.specs.Calls.{Ask, store, outcome}
use Rattle.door.specs.Calls as door
use Rattle.unit.specs.Unit.{empty_unit, view}
use Rattle.unit.specs.Run.{Call, on, erase, after, Moment, moments}

-- a door of the empty unit: Idle, none held, none in hand
unfoldable pub idle_view : Seen
idle_view = record { door = idle_door; held = [] }

-- a list of calls, as the door sees it
abbrev pub moment_of : Seen → Ask → Moment
moment_of v a =
    record { before = v; ask = a; told = record { reply = (outcome true v a).reply; buffer = (outcome true v a).buffer }; then = door.after v (outcome true v a) }

unfoldable pub moments_of : Seen → List Call → List Moment
moments_of v [] = []
moments_of v (erase ∷ cs) = moments_of idle_view cs
moments_of v (on d a ∷ cs) = moment_of v a ∷ moments_of (door.after v (outcome true v a)) cs

unfoldable pub view_after : Seen → List Call → Seen
view_after v [] = v
view_after v (erase ∷ cs) = view_after idle_view cs
view_after v (on d a ∷ cs) = view_after (door.after v (outcome true v a)) cs

-- number 6 at none of the door's stores that it makes while it holds fewer than its number
unfoldable pub NoSix : List Moment → Type 0
NoSix [] = Unit {0}
NoSix (m ∷ ms) = ((t role : ℕ) (identifier secret : List ℕ) → m.ask ≡ store t role identifier secret → length m.before.held < each_n → m.told.reply ≢ refused 6) × NoSix ms

-- what demand 3 says of a door and two lists of calls from the empty unit
pub record Isolated (d : ℕ) (xs ys : List Call) : Type 0 where
  -- each of the door's calls gets the same answer in both and leaves the same bytes
  pub answers : map (λ (m : Moment). m.told) (moments empty_unit d xs) ≡ map (λ (m : Moment). m.told) (moments empty_unit d ys)
  -- at the end the door holds equal records in equal order
  pub records : (view (after empty_unit xs) d).held ≡ (view (after empty_unit ys) d).held
  -- with the same one, if any, in hand
  pub hand : in_hand (view (after empty_unit xs) d).door.hand ≡ in_hand (view (after empty_unit ys) d).door.hand
  -- it may always hold its four: in either list no store for it is given number 6 while it holds fewer
  pub four_in_first : NoSix (moments empty_unit d xs)
  pub four_in_second : NoSix (moments empty_unit d ys)
