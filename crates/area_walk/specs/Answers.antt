-- What the walk of an area answers, in the terms of the definitions.
use Rattle.std.specs.Prelude.{ℕ, ◌+◌, ◌≤◌, ◌≡◌, refl, List, Bool, length}
use Rattle.std.proofs.Common.{sym, ◌∙◌, ap}
use Rattle.eno.specs.Walk.{Piece, end, fault, item}
use Rattle.eno.specs.Area.{Placed, Fault, Finding, refused, unreadable, missing, found, finding}
use Rattle.area_walk.specs.declared.OptionAt.{OptionAt}
use Rattle.area_walk.specs.declared.OptionAt.TheVariants as at
use Rattle.area_walk.specs.declared.Located.{Located}
use Rattle.area_walk.specs.declared.Located.TheVariants as located

-- what stands at place i
abbrev pub piece_of : ℕ → OptionAt → Piece Fault Placed
piece_of i at.End = end
piece_of i (at.Fault k) = fault (record { place = i; kind = k })
piece_of i (at.Item k n j) = item (record { kind = k; start = i; len = n }) j

abbrev pub finding_of : Located → Finding
finding_of located.Refused = refused
finding_of (located.Unreadable i k) = unreadable (record { place = i; kind = k })
finding_of located.Missing = missing
finding_of (located.Found i n) = found i n

-- the answer with a finding
abbrev located_as : Finding → Located
located_as refused = located.Refused
located_as (unreadable f) = located.Unreadable f.place f.kind
located_as missing = located.Missing
located_as (found i n) = located.Found i n

located_back : (a : Located) → located_as (finding_of a) ≡ a
located_back located.Refused = refl
located_back (located.Unreadable i k) = refl
located_back located.Missing = refl
located_back (located.Found i n) = refl

-- the view loses nothing: two answers with the same finding are the same
pub located_tells : (a b : Located) → finding_of a ≡ finding_of b → a ≡ b
located_tells a b e = sym (located_back a) ∙ (ap located_as e ∙ located_back b)

-- an option that is found lies within n bytes
abbrev pub Within : ℕ → Finding → Type 0
Within n refused = Unit {0}
Within n (unreadable f) = Unit {0}
Within n missing = Unit {0}
Within n (found i k) = i + k ≤ n

-- what `locate` promises
pub record Locates (s : List ℕ) (syn : Bool) (r : Located) : Type 0 where
  pub right : finding_of r ≡ finding s syn
  pub within : Within (length s) (finding_of r)
