-- What a byte leaves, for any reader: its lent memory stays long enough, a refusal is noted, an item uses one byte. Assumes nothing.
use Rattle.std.specs.Prelude.{ℕ, ◌+◌, ◌-◌, ◌≤◌, ◌<◌, ◌≡◌, ◌∷◌, ◌++◌}
use Rattle.std.proofs.Common.{◌∙◌}
use Rattle.init_layout.specs.Reading.{Says, took, refused_with}
use Rattle.pieces_layout.specs.Reader.{Reader, stopped, position_of, state_of}
use Rattle.pieces_layout.specs.ReaderLaws.{Room}
use Rattle.pieces_layout.specs.Step.{Told, waiting, item, refused, short, Taken}

-- a refusal is noted with its position, and no byte counts as used
pub record Noted (n p : ℕ) (r : Reader) (u : ℕ) : Type 0 where
  pub is : state_of r ≡ stopped n
  pub at : position_of r ≡ p
  pub none_used : u ≡ 0

abbrev pub Ends : Told → Reader → ℕ → Type 0
Ends waiting r u = u ≡ 1
Ends (item x) r u = u ≡ 1
Ends (refused n p) r u = Noted n p r u
Ends short r u = ⊥

pub record Fine (t : Taken) : Type 0 where
  pub room : Room t.reader
  pub ends : Ends t.told t.reader t.used

-- a message that is whole is refused with 10 alone
abbrev pub Ten : Says → Type 0
Ten (took c count n) = Unit {0}
Ten (refused_with n) = n ≡ 10
