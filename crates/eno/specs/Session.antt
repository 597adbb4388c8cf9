-- The session record: which half of its identifier each end sends.
use Rattle.std.specs.Prelude.{ℕ, List, Bool, true, false, cond, eqb}
use Rattle.std.proofs.Math.Option.{Option, none, some}
use Rattle.wire.specs.Bytes.{part}
use Rattle.eno.specs.declared.SessionRecord.{SessionRecord}
use Rattle.eno.specs.declared.InHand.{InHand}

-- an identifier half has nine bytes
abbrev pub half_size : ℕ
half_size = 9

abbrev pub first_half : SessionRecord → List ℕ
first_half r = part 0 half_size r.identifier

abbrev pub second_half : SessionRecord → List ℕ
second_half r = part half_size half_size r.identifier

-- original role A sends bytes 0-8 and expects 9-17; B the reverse
unfoldable pub sent_half : SessionRecord → List ℕ
sent_half r = cond (eqb r.role 0) (first_half r) (second_half r)

unfoldable pub expected_half : SessionRecord → List ℕ
expected_half r = cond (eqb r.role 0) (second_half r) (first_half r)

-- the record in hand, if any
unfoldable pub in_hand : InHand → Option SessionRecord
in_hand h = cond h.held (some h.session) none
