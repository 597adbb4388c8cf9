-- What the first segment of the other side comes to, by the verdict.
use Prim.Native.Nat.{ℕ, min}
use mathlib.Core.Path.{◌≡◌, refl, sym, ◌∙◌, ap}
use mathlib.Core.List.{List}
use mathlib.Core.Bool.{Bool, true, false, cond}
use lib.ListN.{take}
use Rattle.eno.specs.Area.{finding, part_of, syn_option}
use Rattle.eno.specs.Session.{in_hand}
use Rattle.eno.specs.Judge.{Judged, judge, way_if}
use Rattle.eno.specs.declared.Cause.{Cause}
use Rattle.judgement.specs.Answers.{cause_of, judged_of, Judges}
use Rattle.judgement.specs.Answers as judge-answers
use Rattle.judgement.specs.declared.Reason.{Reason}
use Rattle.judgement.specs.declared.Verdict.{Verdict}
use Rattle.judgement.specs.declared.Verdict.TheVariants as verdict
use Rattle.judgement.specs.declared.Judgement.{Judgement}
use Rattle.door.specs.Door.{crossed, opened, own_option}
use Rattle.door.specs.Answer.{plain_door}
use Rattle.door.specs.Receive.{judging, judged_door, then_in, after_judging, received}
use Rattle.door.specs.declared.Door.{Door}
use Rattle.door_data.specs.Laws.{own_taken}
use Rattle.segment_doors.specs.Steps.{open_if}

-- what opening comes to
then_crossed : (b : Bool) (d : Door) → open_if b d ≡ then_in (cond b opened crossed) d
unfolding open_if
then_crossed true d = refl
then_crossed false d = refl

-- the first segment, judged
module _ (d : Door) (opens : Bool) (area : List ℕ) (n : ℕ) (is : n ≡ min d.own_length 40) (j : Judgement)
    (h : Judges (judge d.mandatory (in_hand d.hand) (take n d.own) area) j) where
  abbrev judged_option : Judged
  judged_option = judge d.mandatory (in_hand d.hand) (own_option d) area

  abbrev judged_kept : Judged
  judged_kept = judge d.mandatory (in_hand d.hand) (take n d.own) area

  judged_is : judged_kept ≡ judged_option
  judged_is = ap (λ o. judge d.mandatory (in_hand d.hand) o area) (own_taken d n is)

  -- by the verdict that is told
  judged_by : (v : Verdict) → j.verdict ≡ v → after_judging d (cond opens opened crossed) (syn_option area) (judged_of v (judge-answers.transcript_of judged_kept)) ≡ received d (judging (cond opens opened crossed)) area
  unfolding received
  judged_by v e =
      ap (after_judging d (cond opens opened crossed) (syn_option area))
      (ap (λ x. judged_of x (judge-answers.transcript_of judged_kept)) (sym e) ∙ (h.told ∙ judged_is))

  pub judged_refused : j.verdict ≡ verdict.Refused → d ≡ received d (judging (cond opens opened crossed)) area
  judged_refused e = judged_by verdict.Refused e

  pub judged_plain : (why : Reason) → j.verdict ≡ verdict.Plain why → (k : Cause) → k ≡ cause_of why → (r : Door) → r ≡ plain_door k → r ≡ received d (judging (cond opens opened crossed)) area
  judged_plain why e k q r p = p ∙ (ap plain_door q ∙ judged_by (verdict.Plain why) e)

  pub judged_encrypted : (role byte : ℕ) (again : Bool) → j.verdict ≡ verdict.Encrypted role byte again → (o : List ℕ) → o ≡ part_of area (finding area true)
      → (m : Door) → m ≡ judged_door d o role byte (way_if again) → (r : Door) → r ≡ open_if opens m → r ≡ received d (judging (cond opens opened crossed)) area
  unfolding syn_option
  judged_encrypted role byte again e o eo m em r er =
      er
      ∙ (ap (open_if opens) (em ∙ ap (λ x. judged_door d x role byte (way_if again)) eo)
      ∙ (then_crossed opens (judged_door d (part_of area (finding area true)) role byte (way_if again))
      ∙ judged_by (verdict.Encrypted role byte again) e))
