-- What a step leaves as it was, for any unit value: all rows but one at most, and, of the calls that only look, everything.
use Rattle.std.specs.Prelude.{ℕ, zero, suc, ◌≤◌, ◌<◌, ◌≡◌, ◌≢◌, Bool, true, false, ltb, length}
use Rattle.std.proofs.Math.Path.{refl, ap, subst}
use Rattle.std.proofs.Common.{sym, ◌∙◌, inl, inr, arith, ltb-true, ltb-false}
use mathlib.Core.List.{List, [], ◌∷◌}
use Rattle.std.proofs.Math.ListN.{get_or}
use Rattle.std.proofs.lemmas.List.{length-map}
use Rattle.std.proofs.Math.Seq.{get_or-set_other}
use Rattle.door.specs.Door.{Seen, no_session}
use Rattle.door.specs.Outcome.{Outcome, Effect, keep, add, remove, unless}
use Rattle.door.specs.Receive as r
use Rattle.door.specs.Records as k
use Rattle.door.specs.Calls.{Ask, resend, result, count, outcome}
use Rattle.door.specs.declared.Door.{Door}
use Rattle.unit.specs.Numbers.{doors_n, rows_n}
use Rattle.unit.specs.Unit.{position_at, mine, records_at, view, lowest_free, is_free, marks_after, rows_after, enact}
use Rattle.unit.specs.Run.{on, Step, carried, step}
use Rattle.unit.specs.Marks.{marks_in}
use Rattle.unit.proofs.Marked.{takes_lowest, frees_its_row}
use Rattle.unit.specs.Laws.Lists.{In}
use Rattle.unit.specs.Laws.Calls.{Fits}
use Rattle.unit.proofs.Laws.Calls.{unless_law}
use Rattle.unit.proofs.Laws.Calls.{outcome_fits}
use Rattle.unit.proofs.Refusals.{keep_changes_nothing}
use Rattle.unit.specs.declared.LinkUnit.{LinkUnit}
use Rattle.unit_step.specs.Stepping.{step_past, step_is}
use Rattle.unit_step.specs.StepRows.{none, taken, freed, RowsStay, Looks, resend_looks, result_looks, count_looks}

in_at : (j : ℕ) (is : List ℕ) → j < length is → In (get_or is j 0) is
in_at j [] h = absurd (omega arith)
in_at zero (i ∷ is) h = inl refl
in_at (suc j) (i ∷ is) h = inr (in_at j is (omega arith))

unit_stays : (u : LinkUnit) (d : ℕ) → RowsStay u u d
unit_stays u d = record { row = rows_n; which = none (omega arith); marks_stay = λ i n. refl; rows_stay = λ i n. refl }

module _ (u : LinkUnit) (d : ℕ) (ours : d < doors_n) where
  listed : (j : ℕ) → j < length (view u d).held → j < length (mine (position_at u d))
  unfolding records_at
  listed j h = subst (λ (n : ℕ). j < n) (length-map (mine (position_at u d)) _) h

  enact_rows : (l : Door) (e : Effect) → Fits (is_free u) (view u d) e → RowsStay u (enact u d l e) d
  unfolding enact marks_after rows_after
  enact_rows l keep f = record { row = rows_n; which = none (omega arith); marks_stay = λ i n. refl; rows_stay = λ i n. refl }
  enact_rows l (add r) f =
      record {
        row = lowest_free u;
        which = taken refl (takes_lowest u d l r).unmarked;
        marks_stay = λ i n. ap (λ (ms : List ℕ). get_or ms i 0) (takes_lowest u d l r).marked ∙ get_or-set_other (marks_in u.marks) (lowest_free u) i 1 0 n;
        rows_stay = λ i n. get_or-set_other u.rows (lowest_free u) i r no_session n;
      }
  enact_rows l (remove j) f =
      record {
        row = get_or (mine (position_at u d)) j 0;
        which = freed ours (in_at j (mine (position_at u d)) (listed j f));
        marks_stay = λ i n. ap (λ (ms : List ℕ). get_or ms i 0) (frees_its_row u d l j) ∙ get_or-set_other (marks_in u.marks) (get_or (mine (position_at u d)) j 0) i 0 0 n;
        rows_stay = λ i n. get_or-set_other u.rows (get_or (mine (position_at u d)) j 0) i no_session no_session n;
      }

  carried_rows : (a : Ask) → RowsStay u (step u (on d a)).unit d
  unfolding carried
  carried_rows a =
      let o = outcome (is_free u) (view u d) a in
      subst (λ (s : Step). RowsStay u s.unit d) (sym (step_is u d ours a)) (enact_rows o.door o.effect (outcome_fits (is_free u) (view u d) a))

pub step_rows : (u : LinkUnit) (d : ℕ) (a : Ask) → RowsStay u (step u (on d a)).unit d
step_rows u d a = go (ltb d doors_n) refl
  where
    go : (b : Bool) → ltb d doors_n ≡ b → RowsStay u (step u (on d a)).unit d
    go true e = carried_rows u d (ltb-true _ _ e) a
    go false e = subst (λ (s : Step). RowsStay u s.unit d) (step_past u d a (ltb-false _ _ e)) (unit_stays u d)

-- an outcome that leaves the door's data and the pool
abbrev Leaves : Seen → Outcome → Type 0
Leaves v o = (o.door ≡ v.door) × (o.effect ≡ keep)

looks_leave : (free : Bool) (v : Seen) (a : Ask) → Looks a → Leaves v (outcome free v a)
unfolding outcome r.resend r.result r.close k.count unless
looks_leave free v a (resend_looks s) = unless_law (Leaves v) _ v.door s _ (λ n. (refl, refl)) (λ p. (refl, refl))
looks_leave free v a (result_looks s) = unless_law (Leaves v) _ v.door s _ (λ n. (refl, refl)) (λ p. (refl, refl))
looks_leave free v a count_looks = (refl, refl)

-- they leave the unit as it was
pub looks_leave_the_unit : (u : LinkUnit) (d : ℕ) (a : Ask) → Looks a → (step u (on d a)).unit ≡ u
unfolding carried
looks_leave_the_unit u d a q = go (ltb d doors_n) refl
  where
    go : (b : Bool) → ltb d doors_n ≡ b → (step u (on d a)).unit ≡ u
    go true e =
        let o = outcome (is_free u) (view u d) a in
        let f = looks_leave (is_free u) (view u d) a q in
        ap (λ (s : Step). s.unit) (step_is u d (ltb-true _ _ e) a) ∙ (ap (enact u d o.door) f.1 ∙ keep_changes_nothing u d o.door f.0)
    go false e = ap (λ (s : Step). s.unit) (sym (step_past u d a (ltb-false _ _ e)))
