-- What stands at a place of an option, in the words of the definitions, and that these lose nothing.
use Rattle.std.specs.Prelude.{ℕ, ◌≡◌, refl}
use Rattle.std.proofs.Common.{sym, ◌∙◌, ap}
use Rattle.eno.specs.Walk.{Piece, end, fault, item}
use Rattle.eno.specs.Suboption.{Suboption, global, tep}
use Rattle.suboption.specs.declared.SuboptionAt.{SuboptionAt}
use Rattle.suboption.specs.declared.SuboptionAt.TheVariants as at

-- the end, a fault, or a suboption and the place after it
abbrev pub piece_of : SuboptionAt → Piece (Unit {0}) Suboption
piece_of at.End = end
piece_of at.IllFormed = fault tt
piece_of (at.Global b j) = item (global b) j
piece_of (at.Tep c b i n j) = item (tep (record { counted = c; byte = b; start = i; len = n })) j

abbrev at_by : Suboption → ℕ → SuboptionAt
at_by (global b) j = at.Global b j
at_by (tep x) j = at.Tep x.counted x.byte x.start x.len j

abbrev at_of : Piece (Unit {0}) Suboption → SuboptionAt
at_of end = at.End
at_of (fault f) = at.IllFormed
at_of (item x j) = at_by x j

piece_back : (x : SuboptionAt) → at_of (piece_of x) ≡ x
piece_back at.End = refl
piece_back at.IllFormed = refl
piece_back (at.Global b j) = refl
piece_back (at.Tep c b i n j) = refl

pub piece_tells : (x y : SuboptionAt) → piece_of x ≡ piece_of y → x ≡ y
piece_tells x y e = sym (piece_back x) ∙ (ap at_of e ∙ piece_back y)
