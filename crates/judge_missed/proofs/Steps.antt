-- The cases of the verdict by what the finder says of the two areas. Assumes nothing.
use Prim.Native.Nat.{ℕ}
use mathlib.Core.Path.{◌≡◌, refl, sym, ◌∙◌, ap, ap₂}
use mathlib.Core.List.{List}
use mathlib.Core.Bool.{true}
use mathlib.Core.Logic.{◌⊎◌, ⊎_elim}
use native.Mathlib.Omega.{arith}
use borrow.Author.Tests.{eq-eqb, ne_eqb}
use lib.ListN.{length}
use denote.Enum.Declared
use Rattle.finder.specs.Answers.{status_of}
use Rattle.finder.specs.declared.FindStatus.{FindStatus}
use Rattle.finder.specs.declared.FindStatus.TheVariants as says
use Rattle.eno.specs.Area.{says_found, status, finding}
use Rattle.judgement.specs.Answers.{without_transcript}
use Rattle.judgement.specs.declared.Verdict.{Verdict}
use Rattle.judgement.specs.declared.Verdict.TheVariants as verdict
use Rattle.judge_missed.specs.Missed.{missed_peer, unless_refused, missed_as, status_by, not_found}

-- a verdict by what the finder says, variant by variant
module _ (x y : FindStatus) (e : x ≡ y) where
  pub missed_peer_by : (v : Verdict) → v ≡ missed_peer (status_of y) → v ≡ missed_peer (status_of x)
  missed_peer_by v h = h ∙ ap (λ z. missed_peer (status_of z)) (sym e)

  pub missed_by : (p : FindStatus) (v : Verdict) → v ≡ missed_as (status_of y) (status_of p) → v ≡ missed_as (status_of x) (status_of p)
  missed_by p v h = h ∙ ap (λ z. missed_as (status_of z) (status_of p)) (sym e)

-- what the finder says of an area is asked only where no option was found
pub asked : (area o : List ℕ) → length o ≡ 0 → status (finding area true) ≡ status_by area o
unfolding status_by
asked area o e = simp (eq-eqb _ _ e)

pub not_asked : (area o : List ℕ) → (length o ≡ 0 → ⊥) → says_found ≡ status_by area o
unfolding status_by
not_asked area o h = simp (ne_eqb _ _ h)

-- from what is said of both areas
pub missed_both : (ownArea own peerArea peer : List ℕ) (x y : FindStatus) → status_of x ≡ status_by ownArea own → status_of y ≡ status_by peerArea peer
    → without_transcript (missed_as (status_of x) (status_of y)) ≡ not_found ownArea own peerArea peer
unfolding not_found
missed_both ownArea own peerArea peer x y e h = ap₂ (λ p q. without_transcript (missed_as p q)) e h

abbrev tag : FindStatus → ℕ
tag r = Declared.tag_of (Declared.declared Rattle.finder.specs.contracts.FindStatus.enum) r

pub refused_first_lem : (x : FindStatus) (v : Verdict) → x ≡ says.Refused → verdict.Refused ≡ unless_refused (status_of x) v
refused_first_lem x v e = ap (λ z. unless_refused (status_of z) v) (sym e)

pub not_refused : (x : FindStatus) (v : Verdict) → (tag x ≡ 0) ⊎ ((tag x ≡ 1) ⊎ (tag x ≡ 2)) → v ≡ unless_refused (status_of x) v
not_refused says.Found v h = refl
not_refused says.Nothing v h = refl
not_refused (says.Unreadable i k) v h = refl
not_refused says.Refused v h = absurd (⊎_elim (λ e. omega arith) (⊎_elim (λ e. omega arith) (λ e. omega arith)) h)
