-- The cause that the judge gives is the right one: reason 1 with the option that makes the area unreadable, any other reason with zeros.
use Rattle.std.specs.Prelude.{ℕ, ◌≤◌, ◌<◌, List, [], ◌∷◌, Bool, cond}
use Rattle.std.proofs.Math.Path.{◌≡◌}
use Rattle.std.proofs.Math.Bool.{true}
use Rattle.eno.specs.Area.{Fault, finding}
use Rattle.eno.specs.Blame.{Blamed}
use Rattle.eno.specs.Judge.{is_unreadable}
use Rattle.eno.specs.declared.Cause.{Cause}

-- the option that a cause names
abbrev pub named_by : Cause → Fault
named_by c = record { place = c.place; kind = c.kind }

-- the cause c is right of the area s
pub data CauseOf (s : List ℕ) (c : Cause) : Type 0 where
  -- s is unreadable, and c names the option that makes it so
  by_option : c.reason ≡ 1 → Blamed s (named_by c) → CauseOf s c
  -- another reason: no place and no kind
  by_reason : (c.reason ≡ 1 → ⊥) → c.place ≡ 0 → c.kind ≡ 0 → CauseOf s c

-- rows of which each has a right cause where its test holds
abbrev pub RightRows : List ℕ → List (Bool × Cause) → Type 0
RightRows s [] = Unit {0}
RightRows s (t ∷ l) = (t.0 ≡ true → CauseOf s t.1) × RightRows s l

-- the area that the judge goes by: this end's own where that is unreadable, else the other side's
abbrev pub area_blamed : (own peer : List ℕ) → List ℕ
area_blamed own peer = cond (is_unreadable (finding own true)) own peer
