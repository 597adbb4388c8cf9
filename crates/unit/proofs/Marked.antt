-- The marks and the doors' lists: after every list of calls from the empty unit a row is marked exactly when some door lists it; and, for every unit value, which row a record takes and which mark is cleared.
use Rattle.std.specs.Prelude.{◌≡◌, refl, ◌↔◌, List, [], ◌∷◌, ℕ, zero, suc, ◌≤◌, ◌<◌, get_or, set}
use Rattle.std.proofs.Common.{sym, ap, ◌∙◌, arith, lit≤}
use Rattle.std.proofs.Math.Nat.{suc_inj}
use Rattle.eno.specs.declared.SessionRecord.{SessionRecord}
use Rattle.door.specs.Door.{no_session}
use Rattle.door.specs.Outcome.{remove}
use Rattle.door.specs.declared.Door.{Door}
use Rattle.unit.specs.Numbers.{doors_n, word_n}
use Rattle.unit.specs.Marks.{bits_of, marks_in, with_bit, with_mark}
use Rattle.unit.specs.Unit.{empty_unit, position_at, mine, or_next, first_free, lowest_free, marks_after, rows_after, enact}
use Rattle.unit.specs.Run.{Call, after}
use Rattle.unit.specs.Invariant.{Inv}
use Rattle.unit.proofs.Invariant.{empty_inv}
use Rattle.unit.proofs.Isolation.{inv_after}
use Rattle.unit.specs.Laws.Lists.{In}
use Rattle.unit.specs.Laws.Pool.{bit}
use Rattle.unit.proofs.Laws.Pool.{lowest_is_free}
use Rattle.unit.proofs.Laws.Marks.{marks_set, marks_bits, below_marked, mark_of_owner}
use Rattle.unit.proofs.Laws.Owned.{in_own}
use Rattle.unit.specs.declared.LinkUnit.{LinkUnit}
use Rattle.unit.specs.Marked.{mark_of, InUse, TakesLowest}

-- rows 0, 33 and 95 marked in three words, the lowest unmarked row of words, and row 33 unmarked again
pub marks_compute :
    (with_mark (0 ∷ 0 ∷ 0 ∷ []) 0 1 ≡ 1 ∷ 0 ∷ 0 ∷ [])
    × (with_mark (0 ∷ 0 ∷ 0 ∷ []) 33 1 ≡ 0 ∷ 2 ∷ 0 ∷ [])
    × (with_mark (0 ∷ 0 ∷ 0 ∷ []) 95 1 ≡ 0 ∷ 0 ∷ 2147483648 ∷ [])
    × (first_free (marks_in (4294967295 ∷ 5 ∷ 0 ∷ [])) ≡ 33)
    × (first_free (marks_in (4294967295 ∷ 4294967295 ∷ 4294967295 ∷ [])) ≡ 96)
    × (with_mark (4294967295 ∷ 7 ∷ 0 ∷ []) 33 0 ≡ 4294967295 ∷ 5 ∷ 0 ∷ [])
unfolding bits_of marks_in with_bit with_mark word_n or_next first_free
marks_compute = (refl, refl, refl, refl, refl, refl)

-- an owner and its mark
bit_taken : (o : ℕ) → bit o ≡ 1 → 0 < o
unfolding bit
bit_taken zero e = absurd (omega arith)
bit_taken (suc o) e = omega arith

bit_free : (o : ℕ) → bit o ≡ 0 → o ≡ 0
unfolding bit
bit_free zero e = refl
bit_free (suc o) e = absurd (omega arith)

taken_bit : (o d : ℕ) → o ≡ suc d → bit o ≡ 1
unfolding bit
taken_bit zero d e = absurd (omega arith)
taken_bit (suc o) d e = refl

module _ (u : LinkUnit) (s : Inv u) (i : ℕ) where
  mark_is : mark_of u i ≡ bit (get_or s.owners i 0)
  mark_is = ap (λ (ms : List ℕ). get_or ms i 0) s.agree ∙ mark_of_owner s.owners i

  owned_by : (o : ℕ) → get_or s.owners i 0 ≡ o → 0 < o → InUse u i
  owned_by zero e l = absurd (omega arith)
  owned_by (suc d) e l = let k : d < doors_n = omega (arith, s.ours i, e) in record { by = d; ours = k; listed = s.listed d k i e }

  pub marked_used : mark_of u i ≡ 1 → InUse u i
  marked_used e = owned_by (get_or s.owners i 0) refl (bit_taken _ (sym mark_is ∙ e))

  pub used_marked : InUse u i → mark_of u i ≡ 1
  used_marked n = mark_is ∙ taken_bit _ n.by (in_own s.owners n.by i (mine (position_at u n.by)) (s.door n.by n.ours).own n.listed)

-- after every list of calls, erase included: a mark is set exactly when some door lists the row
pub marks_agree : (cs : List Call) (i : ℕ) → (mark_of (after empty_unit cs) i ≡ 1) ↔ InUse (after empty_unit cs) i
marks_agree cs i = let s = inv_after empty_unit empty_inv cs in (marked_used (after empty_unit cs) s i, used_marked (after empty_unit cs) s i)

-- no two doors list one row
pub one_door : (cs : List Call) (i d e : ℕ) → d < doors_n → e < doors_n → In i (mine (position_at (after empty_unit cs) d)) → In i (mine (position_at (after empty_unit cs) e)) → d ≡ e
one_door cs i d e h k m n =
    let u = after empty_unit cs in
    let s = inv_after empty_unit empty_inv cs in
    suc_inj (sym (in_own s.owners d i (mine (position_at u d)) (s.door d h).own m) ∙ in_own s.owners e i (mine (position_at u e)) (s.door e k).own n)

-- a row that is not marked is zeros: no record stays in the pool that no door holds
pub unmarked_is_zeros : (cs : List Call) (i : ℕ) → mark_of (after empty_unit cs) i ≡ 0 → get_or (after empty_unit cs).rows i no_session ≡ no_session
unmarked_is_zeros cs i e =
    let s = inv_after empty_unit empty_inv cs in
    s.zeros i (bit_free _ (sym (mark_is (after empty_unit cs) s i) ∙ e))

pub takes_lowest : (u : LinkUnit) (d : ℕ) (l : Door) (r : SessionRecord) → TakesLowest u d l r
unfolding enact marks_after rows_after
takes_lowest u d l r =
    record {
      unmarked = lowest_is_free (marks_in u.marks);
      lower_marked = λ k h. omega (arith, below_marked (marks_in u.marks) k h, marks_bits u.marks k);
      marked = marks_set u.marks (lowest_free u) 1 (lit≤ tt);
      stored = refl;
    }

-- for every unit value: where a door loses its j-th oldest record, the mark of that row alone is cleared
pub frees_its_row : (u : LinkUnit) (d : ℕ) (l : Door) (j : ℕ) → marks_in (enact u d l (remove j)).marks ≡ set (marks_in u.marks) (get_or (mine (position_at u d)) j 0) 0
unfolding enact marks_after
frees_its_row u d l j = marks_set u.marks (get_or (mine (position_at u d)) j 0) 0 (lit≤ tt)
