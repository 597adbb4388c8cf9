-- What the steps of offer tell.
use Rattle.std.specs.Prelude.{ℕ, List, [], ◌∷◌, Bool, ltb, length}
use Rattle.wire.specs.Bytes.{pasted}
use Rattle.eno.specs.Option.{offered, option_with}
use Rattle.door.specs.Door.{Seen}
use Rattle.door.specs.Record.{record_at}
use Rattle.door.specs.Outcome.{Outcome, written, refusal, unless}
use Rattle.door.specs.Offer.{offered_door}
use Rattle.opening.specs.Steps.{taking}

-- an offer whose arguments fit: the j-th oldest record is taken, if there is one
unfoldable pub proposed : Seen → (b : ℕ) (aware mandatory : Bool) (list : List ℕ) (j : ℕ) (nonce s : List ℕ) → Outcome
proposed v b aware mandatory list j nonce s =
    let taken = record_at v.held j in
    let o = option_with (offered b aware list taken nonce) in
    unless (refusal ((ltb (length s) (length o), 5) ∷ [])) v.door s
    (record {
      reply = written (length o);
      buffer = pasted s 0 o;
      door = offered_door o mandatory taken;
      effect = taking (length v.held) j;
    })
