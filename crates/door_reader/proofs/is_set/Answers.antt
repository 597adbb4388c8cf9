-- `door_reader::is_set` meets its contract.
use mathlib.Core.Path.{◌≡◌, refl}
use mathlib.Core.Bool.{not}
use Prim.Native.Nat.{ℕ, zero, suc}
use lib.Dec.{eqb, eqb-suc-zero}
use Rattle.unit_bytes.specs.Content.{is_set}
use Rattle.door_reader.proofs.is_set.Goals as goal

not_zero : (x : ℕ) → not (eqb x 0) ≡ is_set x
unfolding is_set
not_zero zero = refl
not_zero (suc x) = rw (eqb-suc-zero x) refl

pub returns : goal.returns
returns c = not_zero c.args.x
