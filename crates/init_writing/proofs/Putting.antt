-- Laws of the writers: the fields written one after another, and what is answered. Assumes nothing.
use Prim.Native.Nat.{ℕ, ◌+◌, ◌≤◌, ◌<◌}
use mathlib.Core.Path.{◌≡◌, ◌∙◌, ap}
use mathlib.Core.List.{List, ◌++◌}
use mathlib.Core.Bool.{Bool, true, false}
use native.Mathlib.Omega.{arith}
use borrow.Author.Tests.{lt-ltb, le-ltb}
use lib.ListN.{length}
use Rattle.wire.specs.Bytes.{pasted}
use Rattle.wire.specs.ByteLaws.{pasted_twice}
use Rattle.eno.specs.Option.{written_as, wrote, refused_with}
use Rattle.init_layout.specs.Writing.{write_message}

-- the next field after those written so far
pub next : (s u t v r : List ℕ) (k : ℕ) → t ≡ pasted s 0 u → k ≡ length u → k + length v ≤ length s → r ≡ pasted t k v → r ≡ pasted s 0 (u ++ v)
next s u t v r k e n h p =
    p ∙ (ap (λ l. pasted l k v) e ∙ (ap (λ j. pasted (pasted s 0 u) j v) (n ∙ omega arith) ∙ pasted_twice s u v 0 (omega arith)))

-- the answers of a writer
module _ (fit : Bool) (o s : List ℕ) where
  pub says_unfit : fit ≡ false → written_as (refused_with 3) s ≡ write_message fit o s
  unfolding write_message
  says_unfit e = simp e

  module _ (f : fit ≡ true) (n : ℕ) (long : length o ≡ n) where
    pub says_no_room : length s < n → written_as (refused_with 5) s ≡ write_message fit o s
    unfolding write_message
    says_no_room h = let k : length s < length o = omega arith in simp (f, lt-ltb _ _ k)

    pub says_wrote : n ≤ length s → (t : List ℕ) → t ≡ pasted s 0 o → written_as (wrote n) t ≡ write_message fit o s
    unfolding write_message
    says_wrote h t e = let k : length o ≤ length s = omega arith in simp (f, le-ltb _ _ k, e, ← long)
