-- A door's history in a list of calls: a call of the list, and what has held of the door since.
use Rattle.std.specs.Prelude.{◌≡◌, Bool, true, false, ℕ, ◌<◌, eqb}
use Rattle.std.proofs.Math.Path.{refl, ap, subst}
use Rattle.std.proofs.Common.{sym, ◌∙◌, eqb-true}
use mathlib.Core.List.{List, [], ◌∷◌, ◌++◌, append-nil, append_assoc}
use Rattle.std.proofs.lemmas.Bool.{eqb-false}
use Rattle.door.specs.Door.{Seen}
use Rattle.door.specs.Outcome.{Outcome}
use Rattle.door.specs.Calls.{Ask, outcome}
use Rattle.door.specs.Calls as door
use Rattle.door.specs.declared.Door.{Door}
use Rattle.unit.specs.Numbers.{doors_n}
use Rattle.unit.specs.Unit.{empty_unit, view}
use Rattle.unit.specs.Run.{Call, on, erase, step, after}
use Rattle.unit.specs.Invariant.{Inv}
use Rattle.unit.proofs.Invariant.{empty_inv}
use Rattle.unit.specs.Isolation.{idle_view}
use Rattle.unit.proofs.Isolation.{told_own, view_own, inv_after, view_step, view_empty}
use Rattle.unit.specs.declared.LinkUnit.{LinkUnit}
use Rattle.unit.specs.History.{seen_after, door_after, told_after, unit_then, door_then, Throughout, Since}

-- lists of calls, joined
pub after_append : (u : LinkUnit) (xs ys : List Call) → after u (xs ++ ys) ≡ after (after u xs) ys
unfolding after
after_append u [] ys = refl
after_append u (c ∷ xs) ys = after_append (step u c).unit xs ys

pub after_one : (u : LinkUnit) (xs : List Call) (c : Call) → after u (xs ++ c ∷ []) ≡ (step (after u xs) c).unit
unfolding after
after_one u xs c = after_append u xs (c ∷ [])

module _ (P : Door → Type 0) (d : ℕ) where
  throughout_one : (u : LinkUnit) (cs : List Call) (c : Call) → Throughout P d u cs → P (view (after u (cs ++ c ∷ [])) d).door → Throughout P d u (cs ++ c ∷ [])
  unfolding Throughout after
  throughout_one u [] c t p = (t, p)
  throughout_one u (x ∷ cs) c t p = (t.0, throughout_one (step u x).unit cs c t.1 p)

  -- right after the call
  pub since_now : (xs : List Call) (a : Ask) → P (door_then d xs a) → Since P d (xs ++ on d a ∷ []) xs a
  unfolding Throughout
  since_now xs a p = record { later = []; are = refl; always = p }

  -- and after one call more
  pub since_more : (cs xs : List Call) (a : Ask) (c : Call) → P (door_after d (cs ++ c ∷ [])) → Since P d cs xs a → Since P d (cs ++ c ∷ []) xs a
  unfolding after
  since_more cs xs a c p s =
      let l : List Call = s.later in
      let e : cs ++ c ∷ [] ≡ xs ++ on d a ∷ (l ++ c ∷ []) = ap (λ (k : List Call). k ++ c ∷ []) s.are ∙ append_assoc xs (on d a ∷ l) (c ∷ []) in
      let q : P (view (after (unit_then d xs a) (l ++ c ∷ [])) d).door =
      subst (λ (u : LinkUnit). P (view u d).door) (ap (after empty_unit) e ∙ after_append empty_unit xs (on d a ∷ (l ++ c ∷ []))) p in
      record { later = l ++ c ∷ []; are = e; always = throughout_one (unit_then d xs a) l c s.always q }

-- it held right after the call
throughout_first : (P : Door → Type 0) (d : ℕ) (u : LinkUnit) (cs : List Call) → Throughout P d u cs → P (view u d).door
unfolding Throughout
throughout_first P d u [] t = t
throughout_first P d u (c ∷ cs) t = t.0

pub since_first : (P : Door → Type 0) (d : ℕ) (cs xs : List Call) (a : Ask) → Since P d cs xs a → P (door_then d xs a)
since_first P d cs xs a s = throughout_first P d (unit_then d xs a) s.later s.always

-- what holds throughout, weakened
throughout_map : (P Q : Door → Type 0) → ((e : Door) → P e → Q e) → (d : ℕ) (u : LinkUnit) (cs : List Call) → Throughout P d u cs → Throughout Q d u cs
unfolding Throughout
throughout_map P Q f d u [] t = f _ t
throughout_map P Q f d u (c ∷ cs) t = (f _ t.0, throughout_map P Q f d (step u c).unit cs t.1)

pub since_map : (P Q : Door → Type 0) → ((e : Door) → P e → Q e) → (d : ℕ) (cs xs : List Call) (a : Ask) → Since P d cs xs a → Since Q d cs xs a
since_map P Q f d cs xs a s = record { later = s.later; are = s.are; always = throughout_map P Q f d (unit_then d xs a) s.later s.always }

-- a list of calls grows at its end
pub grows : (P : List Call → Type 0) → ((cs : List Call) (c : Call) → P cs → P (cs ++ c ∷ [])) → (ys xs : List Call) → P xs → P (xs ++ ys)
grows P f [] xs p = subst P (sym (append-nil xs)) p
grows P f (c ∷ ys) xs p = subst P (append_assoc xs (c ∷ []) ys) (grows P f ys (xs ++ c ∷ []) (f xs c p))

module _ (d : ℕ) (h : d < doors_n) where
  pub reached : (cs : List Call) → Inv (after empty_unit cs)
  reached cs = inv_after empty_unit empty_inv cs

  abbrev next : List Call → Ask → Outcome
  next cs a = outcome true (seen_after d cs) a

  -- a door's call is its view's outcome
  pub told_is : (cs : List Call) (a : Ask) → told_after d cs a ≡ record { reply = (next cs a).reply; buffer = (next cs a).buffer }
  told_is cs a = told_own (after empty_unit cs) d (reached cs) h a

  pub then_is : (cs : List Call) (a : Ask) → view (unit_then d cs a) d ≡ door.after (seen_after d cs) (next cs a)
  then_is cs a = view_own (after empty_unit cs) d (reached cs) h a

  pub seen_one : (cs : List Call) (c : Call) → seen_after d (cs ++ c ∷ []) ≡ view (step (after empty_unit cs) c).unit d
  seen_one cs c = ap (λ (u : LinkUnit). view u d) (after_one empty_unit cs c)

  pub then_door : (cs : List Call) (a : Ask) → door_then d cs a ≡ (next cs a).door
  unfolding door.after
  then_door cs a = ap (λ (v : Seen). v.door) (then_is cs a)

  -- so it is after the list with that call
  pub own_is : (cs : List Call) (a : Ask) → door_after d (cs ++ on d a ∷ []) ≡ (next cs a).door
  unfolding door.after
  own_is cs a = ap (λ (v : Seen). v.door) (seen_one cs (on d a) ∙ then_is cs a)

  -- what holds of a door of the empty unit and is kept by each call holds after every list of calls: a call is an erase, another door's, or the door's own
  module _ (P : List Call → Seen → Type 0) (start : P [] idle_view) (erased : (cs : List Call) → P (cs ++ erase ∷ []) idle_view)
      (other : (cs : List Call) (c : Call) → seen_after d (cs ++ c ∷ []) ≡ seen_after d cs → P cs (seen_after d cs) → P (cs ++ c ∷ []) (seen_after d cs))
      (own : (cs : List Call) (a : Ask) → P cs (seen_after d cs) → P (cs ++ on d a ∷ []) (door.after (seen_after d cs) (next cs a))) where
    own_or_other : (b : Bool) (cs : List Call) (e : ℕ) (a : Ask) → eqb e d ≡ b → P cs (seen_after d cs) → P (cs ++ on e a ∷ []) (seen_after d (cs ++ on e a ∷ []))
    own_or_other true cs e a q p =
        subst (λ (k : ℕ). P (cs ++ on k a ∷ []) (seen_after d (cs ++ on k a ∷ []))) (sym (eqb-true e d q))
        (subst (P (cs ++ on d a ∷ [])) (sym (seen_one cs (on d a) ∙ then_is cs a)) (own cs a p))
    own_or_other false cs e a q p =
        let same : seen_after d (cs ++ on e a ∷ []) ≡ seen_after d cs =
        seen_one cs (on e a) ∙ view_step (after empty_unit cs) e a (reached cs) d h (λ x. eqb-false e d q (sym x)) in
        subst (P (cs ++ on e a ∷ [])) (sym same) (other cs (on e a) same p)

    one_more : (cs : List Call) (c : Call) → P cs (seen_after d cs) → P (cs ++ c ∷ []) (seen_after d (cs ++ c ∷ []))
    unfolding step
    one_more cs erase p = subst (P (cs ++ erase ∷ [])) (sym (seen_one cs erase ∙ view_empty d h)) (erased cs)
    one_more cs (on e a) p = own_or_other (eqb e d) cs e a refl p

    pub along : (cs : List Call) → P cs (seen_after d cs)
    unfolding after
    along cs = grows (λ (xs : List Call). P xs (seen_after d xs)) one_more cs [] (subst (P []) (sym (view_empty d h)) start)
