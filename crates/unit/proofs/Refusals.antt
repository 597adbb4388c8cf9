-- Demand 1 for the unit: a refusal changes no record, no door and no byte of a lent buffer, and is given exactly when document 01 says.
use Rattle.std.specs.Prelude.{◌≡◌, refl, ◌↔◌, Bool, true, false, List, ℕ, ◌≤◌, ◌<◌, ltb, set}
use Rattle.std.proofs.Common.{sym, ap, ◌∙◌, subst, arith, lt-ltb, le-ltb, ltb-true, ltb-false}
use Rattle.std.proofs.lemmas.List.{set-get_or}
use Rattle.door.specs.Outcome.{refused, keep, Outcome}
use Rattle.door.specs.Numbered.{lent_of}
use Rattle.door.specs.Refusals.{AsFound}
use Rattle.door.proofs.Refusals.{refusal_changes_nothing, refused_exactly}
use Rattle.door.specs.Calls.{Ask, outcome}
use Rattle.door.specs.declared.Door.{Door}
use Rattle.unit.specs.Numbers.{doors_n}
use Rattle.unit.specs.Unit.{empty_unit, past_position, position_at, view, is_free, marks_after, rows_after, position_after, enact}
use Rattle.unit.specs.Run.{Call, on, erase, Told, carried, step_on, step, after}
use Rattle.unit.specs.Invariant.{Inv}
use Rattle.unit.proofs.Invariant.{empty_inv}
use Rattle.unit.proofs.Isolation.{inv_after, told_own}
use Rattle.unit.specs.declared.Position.{Position}
use Rattle.unit.specs.declared.LinkUnit.{LinkUnit}
use Rattle.unit.specs.Refusals.{LeftAsFound, LeastWith, no_door_lem, of_door, LeastOf}

-- nothing kept, nothing changed
pub keep_changes_nothing : (u : LinkUnit) (d : ℕ) (l : Door) → l ≡ (position_at u d).door → enact u d l keep ≡ u
unfolding enact marks_after rows_after position_after
keep_changes_nothing u d l e =
    ap (λ (k : Door). after_keeping k) e ∙ ap (λ (doors : List Position). record { marks = u.marks; rows = u.rows; doors = doors }) (set-get_or u.doors d past_position)
  where
    after_keeping : Door → LinkUnit
    after_keeping k = record { marks = u.marks; rows = u.rows; doors = set u.doors d (record { door = k; count = (position_at u d).count; rows = (position_at u d).rows }) }

carried_as_found : (u : LinkUnit) (d : ℕ) (a : Ask) (o : Outcome) → AsFound (view u d).door (lent_of a) o → ((carried u d o).unit ≡ u) × ((carried u d o).told.buffer ≡ lent_of a)
unfolding carried
carried_as_found u d a o f = (ap (enact u d o.door) f.effect ∙ keep_changes_nothing u d o.door f.door, f.buffer)

told_reply : (u : LinkUnit) (d : ℕ) (a : Ask) (n : ℕ) → (carried u d (outcome (is_free u) (view u d) a)).told.reply ≡ refused n → (outcome (is_free u) (view u d) a).reply ≡ refused n
unfolding carried
told_reply u d a n e = e

step_as_found : (b : Bool) (u : LinkUnit) (d : ℕ) (a : Ask) (n : ℕ) → (step_on b u d a).told.reply ≡ refused n → ((step_on b u d a).unit ≡ u) × ((step_on b u d a).told.buffer ≡ lent_of a)
unfolding step_on
step_as_found false u d a n e = (refl, refl)
step_as_found true u d a n e = carried_as_found u d a (outcome (is_free u) (view u d) a) (refusal_changes_nothing (is_free u) (view u d) a n (told_reply u d a n e))

pub refusal_leaves : (u : LinkUnit) (c : Call) (n : ℕ) → (step u c).told.reply ≡ refused n → LeftAsFound u c
unfolding step
refusal_leaves u erase n e = let z : ◌≡◌ {A = ℕ} 0 1 = cc in absurd (omega arith)
refusal_leaves u (on d a) n e = let f = step_as_found (ltb d doors_n) u d a n e in record { unit = f.0; buffer = f.1 }

any_reply : (b : Bool) (u : LinkUnit) (d : ℕ) (a : Ask) (n : ℕ) → ltb d doors_n ≡ b → (step u (on d a)).told.reply ≡ refused n → LeastWith (is_free u) u d a n
unfolding step step_on carried
any_reply true u d a n q e =
    let f : (outcome (is_free u) (view u d) a).reply ≡ refused n = sym (rw q) ∙ e in
    of_door (ltb-true d doors_n q) ((refused_exactly (is_free u) (view u d) a n).0 f)
any_reply false u d a n q e =
    let f : refused 1 ≡ refused n = sym (rw q) ∙ e in
    let m : 1 ≡ n = cc in
    subst (LeastWith (is_free u) u d a) m (no_door_lem (ltb-false d doors_n q))

any_least : (u : LinkUnit) (d : ℕ) (a : Ask) (n : ℕ) → LeastWith (is_free u) u d a n → (step u (on d a)).told.reply ≡ refused n
unfolding step step_on carried
any_least u d a n (no_door_lem h) = rw (le-ltb d doors_n h)
any_least u d a n (of_door h l) = rw (lt-ltb d doors_n h) ((refused_exactly (is_free u) (view u d) a n).1 l)

-- for every unit value: a reply is `refused n` exactly when n is the least number that applies
pub refused_exactly_any : (u : LinkUnit) (d : ℕ) (a : Ask) (n : ℕ) → ((step u (on d a)).told.reply ≡ refused n) ↔ LeastWith (is_free u) u d a n
refused_exactly_any u d a n = (λ e. any_reply (ltb d doors_n) u d a n refl e, λ l. any_least u d a n l)

own_reply : (u : LinkUnit) (d : ℕ) → Inv u → d < doors_n → (a : Ask) → (outcome (is_free u) (view u d) a).reply ≡ (outcome true (view u d) a).reply
unfolding step step_on carried
own_reply u d s h a = sym (rw (lt-ltb d doors_n h)) ∙ ap (λ (t : Told). t.reply) (told_own u d s h a)

-- so free or not is one at such a unit
least_one : (u : LinkUnit) (d : ℕ) (a : Ask) (n : ℕ) → Inv u → LeastWith (is_free u) u d a n → LeastOf u d a n
least_one u d a n s (no_door_lem h) = no_door_lem h
least_one u d a n s (of_door h l) = of_door h ((refused_exactly true (view u d) a n).0 (sym (own_reply u d s h a) ∙ (refused_exactly (is_free u) (view u d) a n).1 l))

one_least : (u : LinkUnit) (d : ℕ) (a : Ask) (n : ℕ) → Inv u → LeastOf u d a n → LeastWith (is_free u) u d a n
one_least u d a n s (no_door_lem h) = no_door_lem h
one_least u d a n s (of_door h l) = of_door h ((refused_exactly (is_free u) (view u d) a n).0 (own_reply u d s h a ∙ (refused_exactly true (view u d) a n).1 l))

-- a reply is `refused n` exactly when n is the least number that applies
pub refused_exactly_when : (cs : List Call) (d : ℕ) (a : Ask) (n : ℕ) → ((step (after empty_unit cs) (on d a)).told.reply ≡ refused n) ↔ LeastOf (after empty_unit cs) d a n
refused_exactly_when cs d a n =
    let u = after empty_unit cs in
    let s = inv_after empty_unit empty_inv cs in
    let x = refused_exactly_any u d a n in
    (λ e. least_one u d a n s (x.0 e), λ l. x.1 (one_least u d a n s l))
