-- Why no option is found, by what the finder's companion says.
use Prim.Native.Nat.{ℕ}
use mathlib.Core.Path.{◌≡◌, refl, sym, ◌∙◌, ap}
use Rattle.std.specs.Prelude.{Some, None}
use Rattle.std.specs.Prelude as code
use mathlib.Core.List.{List, [], ◌∷◌}
use mathlib.Core.Bool.{Bool}
use Rattle.eno.specs.Area.{Finding, refused, unreadable, missing, found, finding, Status, says_found, says_none, says_unreadable, says_refused, status}
use Rattle.eno.specs.Cause.{numbered, blame, first_cause}
use Rattle.eno.specs.Judge.{is_unreadable, is_missing}
use Rattle.eno.specs.declared.Cause.{Cause}
use Rattle.finder.specs.Answers.{status_of}
use Rattle.finder.specs.declared.FindStatus.{FindStatus}
use Rattle.plain_reason.specs.Reasons.{as_cause, absence_of}

abbrev absence_by : Status → code.Option Cause
absence_by says_found = None
absence_by says_none = Some (numbered 2)
absence_by (says_unreadable f) = Some (record { reason = 1; place = f.place; kind = f.kind })
absence_by (says_refused n) = None

absence_by_lem : (f : Finding) → absence_by (status f) ≡ as_cause (first_cause ((is_unreadable f, blame f) ∷ (is_missing f, numbered 2) ∷ []))
unfolding status first_cause
absence_by_lem refused = refl
absence_by_lem (unreadable x) = refl
absence_by_lem missing = refl
absence_by_lem (found i n) = refl

pub absence_is : (area : List ℕ) (syn : Bool) (x y : FindStatus) → x ≡ y → status_of x ≡ status (finding area syn) → absence_by (status_of y) ≡ as_cause (absence_of area syn)
unfolding absence_of
absence_is area syn x y q e = ap (λ z. absence_by (status_of z)) (sym q) ∙ (ap absence_by e ∙ absence_by_lem (finding area syn))
