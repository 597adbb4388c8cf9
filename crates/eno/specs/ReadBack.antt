-- What is written is read back: finder and suboption list give exactly what was asked, also among other options of an area.
use Prim.Native.Nat.{ℕ, ◌+◌, ◌-◌, ◌≤◌}
use Rattle.std.proofs.Math.Path.{◌≡◌}
use Rattle.std.proofs.Common.{◌∙◌}
use mathlib.Core.List.{List, [], ◌∷◌, ◌++◌}
use Rattle.eno.specs.Area.{eno_kind}
use Rattle.eno.specs.AreaGrammar.{TcpOption, no_operation, with_data}

-- the kind of an option
abbrev pub kind_of : TcpOption → ℕ
kind_of no_operation = 1
kind_of (with_data k d) = k

-- no ENO option among these
abbrev pub NoEno : List TcpOption → Type 0
NoEno [] = Unit {0}
NoEno (o ∷ l) = (kind_of o ≡ eno_kind → ⊥) × NoEno l
