-- Laws of causes: 0 is the reason of none alone.
use Rattle.std.specs.Prelude.{ℕ, ◌≡◌, refl, List, [], ◌∷◌, Bool, true, false, not, Some, None}
use Rattle.std.specs.Prelude as code
use Rattle.std.proofs.Common.{sym, ◌∙◌, ap, arith}
use Rattle.std.proofs.Math.Option.{Option, none, some}
use Rattle.wire.specs.Bytes.{same_bytes}
use Rattle.eno.specs.Area.{Finding, refused, unreadable, missing, found, finding, syn_option}
use Rattle.eno.specs.Suboption.{suboptions, is_ill_formed}
use Rattle.eno.specs.Cause.{numbered, blame, first_cause}
use Rattle.eno.specs.Judge.{is_unreadable, is_missing}
use Rattle.eno.specs.declared.Cause.{Cause}
use Rattle.door.specs.Door.{peer_option}
use Rattle.door.specs.Receive.{second_reason}
use Rattle.door.specs.declared.Door.{Door}
use Rattle.plain_reason.specs.Reasons.{as_cause, absence_of}

-- an unreadable area is reason 1
pub blame_reason : (f : Finding) → (blame f).reason ≡ 1
blame_reason refused = refl
blame_reason (unreadable f) = refl
blame_reason missing = refl
blame_reason (found i n) = refl

-- a cause that is given has a reason
abbrev pub HasReason : Option Cause → Type 0
HasReason o = (c : Cause) → o ≡ some c → c.reason ≡ 0 → ⊥

none_has : HasReason (first_cause [])
unfolding first_cause
none_has c e = let z : ◌≡◌ {A = ℕ} 0 1 = cc in absurd (omega arith)

row_has : (t : Bool) (c : Cause) (l : List (Bool × Cause)) → (c.reason ≡ 0 → ⊥) → HasReason (first_cause l) → HasReason (first_cause ((t, c) ∷ l))
unfolding first_cause
row_has true c l h k d e = let q : c ≡ d = cc in λ z. h (ap (λ (x : Cause). x.reason) q ∙ z)
row_has false c l h k d e = k d e

blame_has : (f : Finding) → (blame f).reason ≡ 0 → ⊥
blame_has f e = let h = blame_reason f in omega arith

pub absence_has : (area : List ℕ) (syn : Bool) → HasReason (absence_of area syn)
unfolding absence_of
absence_has area syn =
    row_has (is_unreadable (finding area syn)) (blame (finding area syn)) _ (blame_has (finding area syn))
    (row_has (is_missing (finding area syn)) (numbered 2) [] (λ e. omega arith) none_has)

pub second_has : (d : Door) (area : List ℕ) → HasReason (second_reason d area)
unfolding second_reason
second_has d area =
    row_has (is_unreadable (finding area true)) (blame (finding area true)) _ (blame_has (finding area true))
    (row_has (is_missing (finding area true)) (numbered 2) _ (λ e. omega arith)
    (row_has (is_ill_formed (suboptions (syn_option area))) (numbered 3) _ (λ e. omega arith)
    (row_has (not (same_bytes (syn_option area) (peer_option d))) (numbered 7) [] (λ e. omega arith) none_has)))

-- so the code's answer tells whether there is a cause, and which
module _ (o : Option Cause) (a : code.Option Cause) (is : a ≡ as_cause o) where
  pub no_cause : a ≡ None → none ≡ o
  no_cause e = go o (sym is ∙ e)
    where
      go : (p : Option Cause) → as_cause p ≡ None → none ≡ p
      go none q = refl
      go (some x) q = cc

  pub is_cause : (c : Cause) → a ≡ Some c → some c ≡ o
  is_cause c e = go o (sym is ∙ e)
    where
      go : (p : Option Cause) → as_cause p ≡ Some c → some c ≡ p
      go none q = cc
      go (some x) q = let r : x ≡ c = cc in ap some (sym r)
