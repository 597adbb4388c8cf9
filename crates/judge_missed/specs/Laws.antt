-- Where the areas do not both have an option, what is said of them is the judgement. Assumes nothing.
use Rattle.std.specs.Prelude.{ℕ, ◌≡◌, List, Bool, false, cond, ◌||◌}
use Rattle.std.proofs.Math.Path.{refl, ap}
use Rattle.std.proofs.Common.{sym, ◌∙◌, arith, eq-eqb, ne_eqb}
use Rattle.std.proofs.Math.Bool.{true}
use Rattle.std.proofs.lemmas.Bool.{false≢true}
use Rattle.std.proofs.Math.Option.{Option}
use Rattle.std.proofs.Math.Decide.{ℕ_discrete}
use Rattle.std.proofs.Math.ListN.{length}
use Rattle.eno.specs.Area.{Finding, refused, unreadable, missing, found, finding, part_of, status}
use Rattle.eno.specs.Cause.{numbered, blame}
use Rattle.eno.specs.Judge.{Judged, refuse, plain, first_of, is_unreadable, is_missing, judge}
use Rattle.eno.proofs.Laws.Found.{found_option, found_says}
use Rattle.eno.specs.Laws.Tests.{is_refused}
use Rattle.eno.proofs.Laws.Tests.{long_refused}
use Rattle.eno.specs.declared.SessionRecord.{SessionRecord}
use Rattle.judgement.specs.Answers.{without_transcript, Judges}
use Rattle.judgement.specs.Laws.Plainly.{judges_plainly}
use Rattle.judgement.specs.declared.Judgement.{Judgement}
use Rattle.judge_missed.specs.Missed.{missed_as, status_by, not_found}

-- not found
abbrev Missed : Finding → Type 0
Missed f = is_refused f || is_unreadable f || is_missing f ≡ true

module _ (s o : List ℕ) (e : o ≡ part_of s (finding s true)) where
  missed : length o ≡ 0 → Missed (finding s true)
  unfolding part_of
  missed z = go (finding s true) refl
    where
      go : (f : Finding) → finding s true ≡ f → Missed f
      go refused q = refl
      go (unreadable x) q = refl
      go missing q = refl
      go (found i n) q =
          let h = found_option s true i n q in
          let l = ap length (e ∙ ap (part_of s) q) in
          let w = h.long in
          let two = h.two in
          absurd (omega arith)

  -- what the finder says of it
  status_by_lem : status_by s o ≡ status (finding s true)
  unfolding status_by
  status_by_lem = elim (ℕ_discrete (length o) 0) [
    | yes z ↦ simp (eq-eqb _ _ z)
    | no z ↦ simp (ne_eqb _ _ z) (sym (found_says s true (λ q. z (ap length (e ∙ q)))))
  ]

-- the first tests, by what the finder says of each area: refused, unreadable, missing
module _ (rest : Judged) where
  by_findings : (f g : Finding) → (is_refused f || is_refused g) || (is_unreadable f || is_unreadable g) || (is_missing f || is_missing g) ≡ true
      → Judges (cond (is_refused f || is_refused g) (refuse 2) (cond (is_unreadable f) (plain (blame f)) (cond (is_unreadable g) (plain (blame g)) (cond (is_missing f || is_missing g) (plain (numbered 2)) rest))))
      (without_transcript (missed_as (status f) (status g)))
  unfolding status
  by_findings refused refused e = judges_plainly _ _ refl refl
  by_findings refused (unreadable y) e = judges_plainly _ _ refl refl
  by_findings refused missing e = judges_plainly _ _ refl refl
  by_findings refused (found j m) e = judges_plainly _ _ refl refl
  by_findings (unreadable x) refused e = judges_plainly _ _ refl refl
  by_findings (unreadable x) (unreadable y) e = judges_plainly _ _ refl refl
  by_findings (unreadable x) missing e = judges_plainly _ _ refl refl
  by_findings (unreadable x) (found j m) e = judges_plainly _ _ refl refl
  by_findings missing refused e = judges_plainly _ _ refl refl
  by_findings missing (unreadable y) e = judges_plainly _ _ refl refl
  by_findings missing missing e = judges_plainly _ _ refl refl
  by_findings missing (found j m) e = judges_plainly _ _ refl refl
  by_findings (found i n) refused e = judges_plainly _ _ refl refl
  by_findings (found i n) (unreadable y) e = judges_plainly _ _ refl refl
  by_findings (found i n) missing e = judges_plainly _ _ refl refl
  by_findings (found i n) (found j m) e = absurd (false≢true e)

or_left : (a b c x y z : Bool) → a || b || c ≡ true → (a || x) || (b || y) || (c || z) ≡ true
or_left true b c x y z e = refl
or_left false true c true y z e = refl
or_left false true c false y z e = refl
or_left false false true true y z e = refl
or_left false false true false true z e = refl
or_left false false true false false z e = refl
or_left false false false x y z e = absurd (false≢true e)

or_right : (a b c x y z : Bool) → x || y || z ≡ true → (a || x) || (b || y) || (c || z) ≡ true
or_right true b c x y z e = refl
or_right false b c true y z e = refl
or_right false true c false y z e = refl
or_right false false c false true z e = refl
or_right false false true false false true e = refl
or_right false false false false false true e = refl
or_right false false c false false false e = absurd (false≢true e)

module _ (mandatory : Bool) (hand : Option SessionRecord) (ownArea peerArea : List ℕ) where
  abbrev judged_areas : Judged
  judged_areas = judge mandatory hand ownArea peerArea

  abbrev f : Finding
  f = finding ownArea true

  abbrev g : Finding
  g = finding peerArea true

  module _ (own peer : List ℕ) (eo : own ≡ part_of ownArea (finding ownArea true)) (ep : peer ≡ part_of peerArea (finding peerArea true)) where
    not_both : (is_refused f || is_refused g) || (is_unreadable f || is_unreadable g) || (is_missing f || is_missing g) ≡ true → Judges judged_areas (not_found ownArea own peerArea peer)
    unfolding judge first_of not_found
    not_both e = rw (long_refused ownArea, long_refused peerArea, status_by_lem ownArea own eo, status_by_lem peerArea peer ep) (by_findings _ f g e)

    pub judge_missed_own : length own ≡ 0 → (r : Judgement) → r ≡ not_found ownArea own peerArea peer → Judges judged_areas r
    judge_missed_own z r e = rw e (not_both (or_left (is_refused f) (is_unreadable f) (is_missing f) (is_refused g) (is_unreadable g) (is_missing g) (missed ownArea own eo z)))

    pub judge_missed_peer : length peer ≡ 0 → (r : Judgement) → r ≡ not_found ownArea own peerArea peer → Judges judged_areas r
    judge_missed_peer z r e = rw e (not_both (or_right (is_refused f) (is_unreadable f) (is_missing f) (is_refused g) (is_unreadable g) (is_missing g) (missed peerArea peer ep z)))
