-- Strike the TEPs that are not valid, take the last: the definition of the judgement, read as RFC 8547 reads.
use Rattle.std.specs.Prelude.{ℕ, Bool, true, false, cond}
use mathlib.Core.List.{List, [], ◌∷◌}
use Rattle.std.proofs.Math.Option.{Option, none, some}
use Rattle.eno.specs.Suboption.{Sent, name}
use Rattle.eno.specs.Judge.{Way, Negotiated, negotiated_by, or_else}

-- valid in some way
abbrev pub is_valid : Option Way → Bool
is_valid none = false
is_valid (some w) = true

-- the TEPs that are valid, in the list's order
unfoldable pub struck : (ℕ → Option Way) → List Sent → List Sent
struck valid [] = []
struck valid (x ∷ l) = cond (is_valid (valid (name x))) (x ∷ struck valid l) (struck valid l)

-- the last of a list, if it has any
unfoldable pub last_of : {X : Type 0} → List X → Option X
last_of [] = none
last_of (x ∷ l) = or_else (last_of l) (some x)

-- a TEP that was taken, as its byte and the way in which it is valid
unfoldable pub taken : (ℕ → Option Way) → Option Sent → Option Negotiated
taken valid none = none
taken valid (some x) = negotiated_by x (valid (name x))
