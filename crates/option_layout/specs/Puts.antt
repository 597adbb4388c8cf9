-- Bytes that are written at a place, and the TEP of the record in hand.
use Rattle.std.specs.Prelude.{ℕ, ◌+◌, ◌≡◌, List, Bool, false, eqb, length}
use Rattle.std.proofs.Math.Option.{Option, none, some}
use Rattle.wire.specs.Bytes.{pasted}
use Rattle.eno.specs.declared.SessionRecord.{SessionRecord}

-- the bytes v were written at a place, and the place after them is given
pub record Puts (s : List ℕ) (at : ℕ) (v t : List ℕ) (after : ℕ) : Type 0 where
  pub bytes : t ≡ pasted s at v
  pub next : after ≡ at + length v

-- the TEP of the record in hand
unfoldable pub of_hand : Option SessionRecord → ℕ → Bool
of_hand none t = false
of_hand (some r) t = eqb t r.tep
