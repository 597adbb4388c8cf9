-- What a call leaves untouched of the unit's memory, byte by byte: for any content of the arrays' sizes, of a call that was carried out as its contract says.
use Rattle.std.specs.Prelude.{ℕ, suc, ◌<◌, ◌≡◌, ◌≢◌, List, [], ◌∷◌, ◌++◌, length, get_or, replicate, Result}
use Rattle.std.proofs.Common.{sym, ◌∙◌, ap, subst, arith}
use Rattle.std.proofs.Math.Nat.{suc_inj}
use Rattle.std.proofs.Math.Decide.{ℕ_discrete}
use Rattle.std.proofs.lemmas.List.{length-replicate, get_or-replicate}
use Rattle.door.specs.Door.{no_session}
use Rattle.door.specs.Outcome.{Reply, refused}
use Rattle.door.specs.Answers.{reply_of, result_reply}
use Rattle.door.specs.Calls.{Ask}
use Rattle.door.specs.declared.Refusal.{Refusal}
use Rattle.door.specs.declared.Reply as code
use Rattle.door.specs.declared.Resulted.{Resulted}
use Rattle.unit.specs.Numbers.{doors_n, rows_n, words_n}
use Rattle.unit.specs.Unit.{empty_unit, position_at, mine}
use Rattle.unit.specs.Run.{Call, on, Step, step, after}
use Rattle.unit.proofs.Refusals.{refusal_leaves}
use Rattle.unit.specs.Invariant.{Inv}
use Rattle.unit.proofs.Invariant.{empty_inv}
use Rattle.unit.proofs.Isolation.{inv_after}
use Rattle.unit.proofs.History.{after_one}
use Rattle.unit.specs.Marks.{marks_in}
use Rattle.unit.specs.Marked.{mark_of}
use Rattle.unit.proofs.Marked.{used_marked}
use Rattle.unit.specs.Laws.Lists.{In}
use Rattle.unit.proofs.Laws.Owned.{in_own}
use Rattle.unit.specs.declared.LinkUnit.{LinkUnit}
use Rattle.unit_bytes.specs.Layout.{row_size, door_size}
use Rattle.unit_bytes.specs.Content.{unit_in}
use Rattle.unit_bytes.proofs.Whole.{row_in}
use Rattle.unit_bytes.specs.Tells.{Tidy, Sized, AllTidy, Same}
use Rattle.unit_bytes.proofs.Tells.{flags_stay, row_tells, erased_tidy, marks_in_lem, unit_tells}
use Rattle.pool.specs.Placed.{DoorsKept}
use Rattle.pool.proofs.PlacedLaws.{doors_same}
use Rattle.pool.proofs.EveryByte.{every_byte}
use Rattle.unit_step.specs.Steps.{step_of, result_of}
use Rattle.unit_step.specs.StepRows.{OneRow, none, taken, freed, Looks}
use Rattle.unit_step.proofs.StepRows.{step_rows, looks_leave_the_unit}
use Rattle.unit_step.specs.Untouched.{CarriedOut, RowKept, OthersKept, Reached, erased, called}

-- the contracts give it: of a call that changes the unit, of resend and count, of result
pub call_carried : (r : Result code.Reply Refusal) (lent marks marks' : List ℕ) (rows rows' doors doors' : List (List ℕ)) (d : ℕ) (a : Ask)
    → (step_of r lent (unit_in marks' rows' doors') ≡ step (unit_in marks rows doors) (on d a)) × DoorsKept d doors doors' → CarriedOut d a (reply_of r []) lent marks marks' rows rows' doors doors'
call_carried r lent marks marks' rows rows' doors doors' d a c = record { is_step = c.0; doors_kept = c.1 }

pub look_carried : (r : Result code.Reply Refusal) (lent marks : List ℕ) (rows doors : List (List ℕ)) (d : ℕ) (a : Ask)
    → step_of r lent (unit_in marks rows doors) ≡ step (unit_in marks rows doors) (on d a) → CarriedOut d a (reply_of r []) lent marks marks rows rows doors doors
look_carried r lent marks rows doors d a c = record { is_step = c; doors_kept = doors_same d doors }

pub result_carried : (r : Result Resulted Refusal) (lent marks : List ℕ) (rows doors : List (List ℕ)) (d : ℕ) (a : Ask)
    → result_of r lent (unit_in marks rows doors) ≡ step (unit_in marks rows doors) (on d a) → CarriedOut d a (result_reply r) lent marks marks rows rows doors doors
result_carried r lent marks rows doors d a c = record { is_step = c; doors_kept = doors_same d doors }

-- one call, for any content; that the arrays have the unit's sizes is what their types say
module _ (marks marks' : List ℕ) (rows rows' doors doors' : List (List ℕ)) (sized : Sized marks rows doors) (sized' : Sized marks' rows' doors') (d : ℕ) (a : Ask) (x : Reply) (lent : List ℕ)
    (call : CarriedOut d a x lent marks marks' rows rows' doors doors') where
  abbrev u : LinkUnit
  u = unit_in marks rows doors

  unit_after : unit_in marks' rows' doors' ≡ (step u (on d a)).unit
  unit_after = ap (λ (s : Step). s.unit) call.is_step

  -- a refused call leaves every byte, odd flags included
  pub refused_leaves_every_byte : (n : ℕ) → x ≡ refused n → Same marks' marks rows' rows doors' doors
  refused_leaves_every_byte n e =
      every_byte marks marks' rows rows' doors doors' d sized sized' call.doors_kept
      (unit_after ∙ (refusal_leaves u (on d a) n (ap (λ (s : Step). s.told.reply) (sym call.is_step) ∙ e)).unit)

  -- resend, result and count leave every byte
  pub looks_leave_every_byte : Looks a → Same marks' marks rows' rows doors' doors
  looks_leave_every_byte q = every_byte marks marks' rows rows' doors doors' d sized sized' call.doors_kept (unit_after ∙ looks_leave_the_unit u d a q)

  row_kept : (i : ℕ) → i < rows_n → mark_of (step u (on d a)).unit i ≡ mark_of u i → get_or (step u (on d a)).unit.rows i no_session ≡ get_or u.rows i no_session
      → RowKept marks marks' rows rows' i
  row_kept i h o e =
      record {
        mark =
            ap (λ (l : List ℕ). get_or (marks_in l) i 0) (sym (marks_in_lem marks' rows' doors' sized'.all_marks))
            ∙ (ap (λ (w : LinkUnit). mark_of w i) unit_after ∙ (o ∙ ap (λ (l : List ℕ). get_or (marks_in l) i 0) (marks_in_lem marks rows doors sized.all_marks)));
        bytes =
            row_tells (get_or rows' i []) (get_or rows i []) (sized'.row_bytes i h) (sized.row_bytes i h)
            (sym (row_in marks' rows' doors' i h) ∙ (ap (λ (w : LinkUnit). get_or w.rows i no_session) unit_after ∙ (e ∙ row_in marks rows doors i h)));
      }

  -- a call changes no byte of another door, and no row but the one that it takes or frees
  pub others_untouched : OthersKept d marks marks' rows rows' doors doors'
  others_untouched =
      let s = step_rows u d a in
      record { doors_kept = call.doors_kept.others; row = s.row; which = s.which; rows_kept = λ i h n. row_kept i h (s.marks_stay i n) (s.rows_stay i n) }

  -- in a unit that calls reach from the empty one, that row is none that another door lists
  pub rows_of_others_untouched : (cs : List Call) → unit_in marks rows doors ≡ after empty_unit cs → (e i : ℕ) → e ≢ d → i < rows_n → e < doors_n → In i (mine (position_at (unit_in marks rows doors) e)) → RowKept marks marks' rows rows' i
  rows_of_others_untouched cs run e i n h k o = others_untouched.rows_kept i h (not_it others_untouched.row others_untouched.which)
    where
      inv : Inv u
      inv = subst Inv (sym run) (inv_after empty_unit empty_inv cs)

      owned : get_or inv.owners i 0 ≡ suc e
      owned = in_own inv.owners e i (mine (position_at u e)) (inv.door e k).own o

      marked : mark_of u i ≡ 1
      marked = used_marked u inv i (record { by = e; ours = k; listed = o })

      not_it : (row : ℕ) → OneRow u d row → i ≢ row
      not_it row (none past) q = omega (arith, q, past, h)
      not_it row (taken lowest free) q = omega (arith, marked, ap (λ (j : ℕ). mark_of u j) q, free)
      not_it row (freed ours list) q = n (suc_inj (sym owned ∙ (ap (λ (j : ℕ). get_or inv.owners j 0) q ∙ in_own inv.owners d row (mine (position_at u d)) (inv.door d ours).own list)))

-- flags that are 0 or 1 stay 0 or 1
pub flags_kept : (d : ℕ) (doors doors' : List (List ℕ)) → DoorsKept d doors doors' → AllTidy doors → AllTidy doors'
flags_kept d doors doors' kept t = record { each = λ i h. at i h (ℕ_discrete i d) }
  where
    at : (i : ℕ) → i < doors_n → Dec (i ≡ d) → Tidy (get_or doors' i [])
    at i h (yes e) = subst (λ (j : ℕ). Tidy (get_or doors' j [])) (sym e) (flags_stay (get_or doors d []) (get_or doors' d []) kept.flags (subst (λ (j : ℕ). Tidy (get_or doors j [])) e (t.each i h)))
    at i h (no n) = subst Tidy (sym (kept.others i n)) (t.each i h)

-- from `erase` on, flags are 0 or 1
pub reached_flags : {marks : List ℕ} {rows doors : List (List ℕ)} → Reached marks rows doors → AllTidy doors
reached_flags (erased z) = subst AllTidy (sym z.doors_zero) erased_tidy
reached_flags (called r s c) = flags_kept _ _ _ c.doors_kept (reached_flags r)

pub reached_sized : {marks : List ℕ} {rows doors : List (List ℕ)} → Reached marks rows doors → Sized marks rows doors
reached_sized (erased z) =
    record {
      all_marks = ap length z.marks_zero ∙ length-replicate {A = ℕ} words_n 0;
      all_rows = ap length z.rows_zero ∙ length-replicate rows_n (replicate row_size 0);
      all_doors = ap length z.doors_zero ∙ length-replicate doors_n (replicate door_size 0);
      row_bytes = λ i h. ap (λ (l : List (List ℕ)). length (get_or l i [])) z.rows_zero ∙ (ap length (get_or-replicate rows_n i (replicate row_size 0) [] h) ∙ length-replicate {A = ℕ} row_size 0);
      door_bytes = λ i h. ap (λ (l : List (List ℕ)). length (get_or l i [])) z.doors_zero ∙ (ap length (get_or-replicate doors_n i (replicate door_size 0) [] h) ∙ length-replicate {A = ℕ} door_size 0);
    }
reached_sized (called r s c) = s

-- and the unit is the one that the calls make from the empty unit, so that what is proved of lists of calls holds of it
pub reached_by_calls : {marks : List ℕ} {rows doors : List (List ℕ)} → Reached marks rows doors → (cs : List Call) × (unit_in marks rows doors ≡ after empty_unit cs)
unfolding after
reached_by_calls (erased z) = ([], z.empty)
reached_by_calls (called {d = d} {a = a} r s c) =
    let b = reached_by_calls r in
    (b.0 ++ on d a ∷ [], ap (λ (w : Step). w.unit) c.is_step ∙ (ap (λ (v : LinkUnit). (step v (on d a)).unit) b.1 ∙ sym (after_one empty_unit b.0 (on d a))))

-- two contents from `erase` on that say the same unit are the same bytes
pub reached_tells : (marks marks' : List ℕ) (rows rows' doors doors' : List (List ℕ)) → Reached marks rows doors → Reached marks' rows' doors'
    → unit_in marks rows doors ≡ unit_in marks' rows' doors' → Same marks marks' rows rows' doors doors'
reached_tells marks marks' rows rows' doors doors' r r' e =
    unit_tells marks marks' rows rows' doors doors' (reached_sized r) (reached_sized r') (reached_flags r) (reached_flags r') e
