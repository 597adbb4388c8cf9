-- The steps of the writer: the suboptions one after another, then the whole option.
use Rattle.std.specs.Prelude.{ℕ, ◌+◌, ◌≤◌, ◌<◌, List, cond, ltb, length}
use Rattle.std.proofs.Math.Option.{Option, none, some}
use Rattle.wire.specs.Bytes.{pasted}
use Rattle.eno.specs.Option.{encode_all, last_part, Written, written_as, wrote, refused_with}
use Rattle.eno.specs.declared.SessionRecord.{SessionRecord}

-- the byte of the TEP of the record in hand has room for v
abbrev pub HasRoomForV : Option SessionRecord → Type 0
HasRoomForV none = Unit {0}
HasRoomForV (some r) = r.tep < 0x80

-- the suboption of the record in hand, if any, may be written at a place
pub record MayPutLast (hand : Option SessionRecord) (nonce s : List ℕ) (at : ℕ) : Type 0 where
  pub tep : HasRoomForV hand
  pub room : at + length (encode_all (last_part hand nonce)) ≤ length s

-- an option's bytes, written whole or refused with 5
unfoldable pub write_bytes : List ℕ → List ℕ → Written
unfolding pasted
write_bytes o s = cond (ltb (length s) (length o)) (written_as (refused_with 5) s) (written_as (wrote (length o)) (pasted s 0 o))
