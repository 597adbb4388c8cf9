-- Every cause that a call of a door gives is the right one of the area that is handed to that very call; a door in Plain gives the one that it keeps.
use Rattle.std.specs.Prelude.{ℕ, ◌≤◌, Bool, ◌||◌, ◌⊎◌, length}
use Rattle.std.proofs.Math.Path.{◌≡◌}
use Rattle.std.proofs.Common.{◌∙◌}
use mathlib.Core.List.{List, ◌∷◌}
use Rattle.std.proofs.Math.Bool.{true}
use Rattle.std.proofs.Math.Option.{Option, none, some}
use Rattle.eno.specs.Area.{finding, most_area}
use Rattle.eno.specs.Causes.{CauseOf}
use Rattle.eno.specs.Judge.{is_unreadable}
use Rattle.eno.specs.declared.Cause.{Cause}
use Rattle.door.specs.Door.{offering, unencrypted, phase_of, own_option, Seen}
use Rattle.door.specs.Answer.{plain_door}
use Rattle.door.specs.Calls.{Ask, offer, answer, receive, resend, result, close, store, forget, count}
use Rattle.door.specs.declared.Door.{Door}

-- the option area that is handed to a call, if any
abbrev pub handed : Ask → Option (List ℕ)
handed (offer b aware mandatory list resume nonce s) = none
handed (answer area aware mandatory list nonce s) = some area
handed (receive syn ack area) = some area
handed (resend s) = none
handed (result s) = none
handed close = none
handed (store t role identifier secret) = none
handed (forget t identifier) = none
handed count = none

-- how a call q of a door that sees v comes to give the cause c, and the door e that it leaves
pub data Gives (v : Seen) (q : Ask) (e : Door) (c : Cause) : Type 0 where
  -- by the area handed to it; the door keeps the cause
  by_area : (area : List ℕ) → handed q ≡ some area → length area ≤ most_area → CauseOf area c → e ≡ plain_door c → Gives v q e c
  -- by this end's own option, where a first SYN is judged and that is unreadable; none that an offer wrote is
  by_own : (ack : Bool) (area : List ℕ) → q ≡ receive true ack area → phase_of v.door.phase ≡ offering → is_unreadable (finding (own_option v.door) true) ≡ true → CauseOf (own_option v.door) c → e ≡ plain_door c → Gives v q e c
  -- as a door in Plain keeps it
  as_kept : phase_of v.door.phase ≡ unencrypted → v.door.cause ≡ c → e ≡ v.door → Gives v q e c
