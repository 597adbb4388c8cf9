-- An Init message, byte by byte, beside its one-shot reader. Assumes nothing.
use Prim.Native.Nat.{ℕ, ◌+◌, ◌*◌, ◌-◌, ◌%◌, ◌≤◌, ◌<◌}
use Rattle.std.specs.Prelude.{◌≡◌, List, ◌∷◌, ◌++◌, Bool, ◌&&◌, ◌||◌}
use Rattle.std.proofs.Common.{◌∙◌}
use Rattle.std.proofs.Math.ListN.{length, take}
use Rattle.wire.specs.Bytes.{Bytes}
use Rattle.init_layout.specs.Layout.{Init}
use Rattle.init_layout.specs.Reading.{incomplete, standing_of}
use Rattle.pieces_layout.specs.Reader.{Reader, gathered_n, in_init, position_of, state_of, test_of}

-- a reader that has taken the bytes p of an Init message, of which more are wanted
pub record Gathers (i : Init) (keys : ℕ) (test : ℕ → Bool) (p : List ℕ) (r : Reader) : Type 0 where
  pub four : 4 ≤ length r.numbers
  pub wide : gathered_n ≤ length r.gathered
  pub is : state_of r ≡ in_init i keys
  pub at : position_of r ≡ length p
  pub stands : take (length p) r.gathered ≡ p
  pub wants : standing_of i keys p ≡ incomplete
  pub takes : test_of i r ≡ test
  pub bytes : Bytes p
