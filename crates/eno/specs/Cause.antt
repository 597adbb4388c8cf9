-- Why a connection is plain TCP: the reason, and where an area broke.
use Rattle.std.specs.Prelude.{ℕ, List, [], ◌∷◌, Bool, cond}
use Rattle.std.proofs.Math.Option.{Option, none, some}
use Rattle.eno.specs.Area.{Fault, Finding, refused, unreadable, missing, found}
use Rattle.eno.specs.declared.Cause.{Cause}

-- a reason that has no place
abbrev pub numbered : ℕ → Cause
numbered n = record { reason = n; place = 0; kind = 0 }

-- reason 1, with the option that makes the area unreadable
abbrev pub blame : Finding → Cause
blame refused = numbered 1
blame (unreadable f) = record { reason = 1; place = f.place; kind = f.kind }
blame missing = numbered 1
blame (found i n) = numbered 1

-- the first of a list of tests that holds gives the cause
unfoldable pub first_cause : List (Bool × Cause) → Option Cause
first_cause [] = none
first_cause (t ∷ l) = cond t.0 (some t.1) (first_cause l)
