-- Why a segment ends in plain TCP, as the code says it.
use Rattle.std.specs.Prelude.{ℕ, List, [], ◌∷◌, Bool, Some, None}
use Rattle.std.specs.Prelude as code
use Rattle.std.proofs.Math.Option.{Option, none, some}
use Rattle.eno.specs.Area.{finding}
use Rattle.eno.specs.Cause.{numbered, blame, first_cause}
use Rattle.eno.specs.Judge.{is_unreadable, is_missing}
use Rattle.eno.specs.declared.Cause.{Cause}

-- why a segment ends in plain TCP, if it does
abbrev pub as_cause : Option Cause → code.Option Cause
as_cause none = None
as_cause (some c) = Some c

-- 1 unreadable area, 2 no ENO option
unfoldable pub absence_of : List ℕ → Bool → Option Cause
absence_of area syn = first_cause ((is_unreadable (finding area syn), blame (finding area syn)) ∷ (is_missing (finding area syn), numbered 2) ∷ [])
