-- Laws of the count of the records that a view shows. Assumes nothing.
use Prim.Native.Nat.{ℕ, min}
use mathlib.Core.Path.{◌≡◌}
use native.Mathlib.Omega.{arith}
use lib.ListN.{length, length-take}
use Rattle.door.specs.Numbers.{each_n}
use Rattle.door.specs.Door.{seen_of, Counts}
use Rattle.door.specs.declared.View.{View}

-- a view whose array has a place for each record
pub counts : (v : View) → length v.held ≡ each_n → (n : ℕ) → n ≡ min v.count each_n → Counts v n
unfolding seen_of
counts v places n e =
    let s = length-take (min v.count each_n) v.held in
    record { seen = omega arith; few = omega arith; places = places }
