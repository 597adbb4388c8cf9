-- A call in code on a door in its place is a step of the unit: for calls that look at the door's own data alone, and for calls on its records.
use Rattle.std.specs.Prelude.{◌≡◌, refl, Bool, true, false, ℕ, ◌<◌, length}
use Rattle.std.proofs.Math.Path.{sym, ap}
use Rattle.std.proofs.Common.{◌∙◌, subst, arith}
use Rattle.std.proofs.lemmas.Bool.{false≢true}
use mathlib.Core.List.{List, []}
use Rattle.std.proofs.Math.Dec.{ltb}
use Rattle.std.proofs.Math.ListN.{take}
use Rattle.std.proofs.Math.Seq.{take_all}
use Rattle.eno.specs.declared.SessionRecord.{SessionRecord}
use Rattle.door.specs.declared.Change.{Change}
use Rattle.door.specs.declared.Change.TheVariants as change
use Rattle.door.specs.Door.{Seen, no_session}
use Rattle.door.specs.Outcome.{Reply, Outcome, keep}
use Rattle.door.specs.Calls.{Ask, outcome}
use Rattle.door.specs.Answers.{outcome_as, effect_of}
use Rattle.door.specs.declared.Door.{Door}
use Rattle.unit.specs.Numbers.{doors_n, rows_n, words_n}
use Rattle.unit.specs.Marks.{marks_in}
use Rattle.unit.specs.Unit.{view, first_free, is_free}
use Rattle.unit.specs.Run.{on, step}
use Rattle.unit.specs.Laws.Calls.{Fits}
use Rattle.unit.proofs.Laws.Calls.{outcome_fits}
use Rattle.unit.specs.declared.Position.{Position}
use Rattle.unit.specs.declared.LinkUnit.{LinkUnit}
use Rattle.unit_bytes.specs.Content.{unit_in}
use Rattle.pool.specs.Carried.{view_at, enact_fit, takes_row}
use Rattle.pool.specs.Placed.{position_from, Put, seen_in, Enacts}
use Rattle.pool.specs.PlacedLaws.{with_door}
use Rattle.pool.proofs.PlacedLaws.{position_from_lem, put_keeps}
use Rattle.pool.proofs.Enacting.{enacts_carried}
use Rattle.unit_step.specs.Stepping.{step_as, view_of, step_carried, step_told_free, step_kept, step_seen}

-- what door d sees, with its own data in hand
abbrev pub seen_with : LinkUnit → ℕ → Door → Seen
seen_with u d l = record { door = l; held = (view u d).held }

-- where no row is free none is taken
no_row_taken : (v : Seen) (a : Ask) (x : Reply) (lent : List ℕ) (l : Door) (c : Change) → outcome_as x lent l (effect_of c no_session) ≡ outcome false v a → takes_row c ≡ true → ⊥
unfolding takes_row
no_row_taken v a x lent l change.Keep e t = false≢true t
no_row_taken v a x lent l change.Add e t = false≢true (subst (λ (o : Outcome). Fits false v o.effect) (sym e) (outcome_fits false v a)).1
no_row_taken v a x lent l (change.Remove j) e t = false≢true t

module _ (marks : List ℕ) (rows doors : List (List ℕ)) (d : ℕ) (ours : d < doors_n) (p : Position) (read : p ≡ position_from doors d) where
  seen : seen_with (unit_in marks rows doors) d p.door ≡ view (unit_in marks rows doors) d
  seen = ap (λ (x : Position). seen_with (unit_in marks rows doors) d x.door) (read ∙ position_from_lem marks rows doors d ours)

  -- a call that leaves other data of the door
  pub step_placed : (a : Ask) (x : Reply) (lent : List ℕ) (l : Door) (after : List (List ℕ))
      → outcome_as x lent l keep ≡ outcome (is_free (unit_in marks rows doors)) (seen_with (unit_in marks rows doors) d p.door) a → Put doors after d (with_door p l)
      → step_as x lent (unit_in marks rows after) ≡ step (unit_in marks rows doors) (on d a)
  step_placed a x lent l after e put =
      step_carried (unit_in marks rows doors) d ours a x lent l keep (seen_with (unit_in marks rows doors) d p.door) (unit_in marks rows after) (seen ∙ sym (view_of (unit_in marks rows doors) d ours)) e
      (put_keeps marks rows doors d ours after p l read put)

  -- a call that changes nothing
  pub step_looked : (a : Ask) (x : Reply) (lent : List ℕ) → outcome_as x lent p.door keep ≡ outcome (is_free (unit_in marks rows doors)) (seen_with (unit_in marks rows doors) d p.door) a
      → step_as x lent (unit_in marks rows doors) ≡ step (unit_in marks rows doors) (on d a)
  step_looked a x lent e =
      step_kept (unit_in marks rows doors) d ours a x lent (view (unit_in marks rows doors) d) (sym (view_of (unit_in marks rows doors) d ours))
      (ap (λ (v : Seen). outcome_as x lent v.door keep) (sym seen) ∙ (e ∙ ap (λ (v : Seen). outcome (is_free (unit_in marks rows doors)) v a) seen))

  -- a call that sees the door's records
  pub seen_records : seen_in rows p ≡ view_at (unit_in marks rows doors) d
  unfolding unit_in
  seen_records = ap (seen_in rows) (read ∙ position_from_lem marks rows doors d ours) ∙ sym (view_of (unit_in marks rows doors) d ours)

  free_in : (i : ℕ) → i ≡ first_free (marks_in marks) → length marks ≡ words_n → ltb i rows_n ≡ is_free (unit_in marks rows doors)
  unfolding unit_in
  free_in i e n = let all : take words_n marks ≡ marks = take_all words_n marks (omega arith) in ap (λ (k : ℕ). ltb k rows_n) (e ∙ ap (λ (words : List ℕ). first_free (marks_in words)) (sym all))

  -- a call that may add a record, told whether a row is free
  pub step_enacted : (a : Ask) (x : Reply) (lent : List ℕ) (l : Door) (c : Change) (r : SessionRecord) (v : Seen) (marks' : List ℕ) (rows' doors' : List (List ℕ)) (i : ℕ)
      → v ≡ seen_in rows p → i ≡ first_free (marks_in marks) → length marks ≡ words_n → outcome_as x lent l (effect_of c r) ≡ outcome (ltb i rows_n) v a → Enacts marks marks' rows rows' doors doors' d p i l c r
      → step_as x lent (unit_in marks' rows' doors') ≡ step (unit_in marks rows doors) (on d a)
  step_enacted a x lent l c r v marks' rows' doors' i sees lowest n e does =
      step_told_free (unit_in marks rows doors) d ours a x lent l (effect_of c r) v (unit_in marks' rows' doors') (ltb i rows_n) (free_in i lowest n) (sees ∙ seen_records) e
      (enacts_carried marks rows doors marks' rows' doors' d p i l c r does read (λ t. (n, lowest)))

  -- a call that adds none: zeros stand beside its change, and no free row is sought
  pub step_taken : (a : Ask) (x : Reply) (lent : List ℕ) (l : Door) (c : Change) (r : SessionRecord) (v : Seen) (marks' : List ℕ) (rows' doors' : List (List ℕ)) (i : ℕ) → r ≡ no_session → v ≡ seen_in rows p
      → outcome_as x lent l (effect_of c no_session) ≡ outcome false v a → outcome false v a ≡ outcome (is_free (unit_in marks rows doors)) v a → Enacts marks marks' rows rows' doors doors' d p i l c r
      → step_as x lent (unit_in marks' rows' doors') ≡ step (unit_in marks rows doors) (on d a)
  step_taken a x lent l c r v marks' rows' doors' i z sees e any does =
      step_carried (unit_in marks rows doors) d ours a x lent l (effect_of c no_session) v (unit_in marks' rows' doors') (sees ∙ seen_records) (e ∙ any)
      (enacts_carried marks rows doors marks' rows' doors' d p i l c r does read (λ t. absurd (no_row_taken v a x lent l c e t)) ∙ ap (λ (q : SessionRecord). enact_fit (unit_in marks rows doors) d l (effect_of c q)) z)

  -- a call that sees the records and changes nothing
  pub step_counted : (a : Ask) (x : Reply) (lent : List ℕ) (v : Seen) → v ≡ seen_in rows p → outcome_as x lent v.door keep ≡ outcome (is_free (unit_in marks rows doors)) v a
      → step_as x lent (unit_in marks rows doors) ≡ step (unit_in marks rows doors) (on d a)
  step_counted a x lent v sees e = step_seen (unit_in marks rows doors) d ours a x lent v (sees ∙ seen_records) e

  -- a call that is told whether a row is free, and changes nothing
  pub step_untaken : (a : Ask) (x : Reply) (lent : List ℕ) (v : Seen) (i : ℕ) → v ≡ seen_in rows p → i ≡ first_free (marks_in marks) → length marks ≡ words_n
      → outcome_as x lent v.door keep ≡ outcome (ltb i rows_n) v a → step_as x lent (unit_in marks rows doors) ≡ step (unit_in marks rows doors) (on d a)
  step_untaken a x lent v i sees lowest n e = step_counted a x lent v sees (e ∙ ap (λ (b : Bool). outcome b v a) (free_in i lowest n))
