-- Demand 3: what a door is given depends on its own calls and on erasures alone.
use Rattle.std.specs.Prelude.{◌≡◌, refl, ◌≢◌, Bool, cond, ℕ, ◌+◌, ◌≤◌, ◌<◌, min, length, eqb, ltb}
use Rattle.std.proofs.Common.{sym, ◌∙◌, subst, arith, lt-ltb, ltb-true, eqb-true}
use Rattle.std.proofs.Math.Path.{ap, ap₂}
use Rattle.std.proofs.Math.Bool.{true, false}
use mathlib.Core.List.{List, [], ◌∷◌, ◌++◌, map}
use Rattle.std.proofs.Math.ListN.{length-map}
use Rattle.std.proofs.Math.Seq.{length-take-le}
use Rattle.std.proofs.lemmas.Bool.{eqb-false}
use Rattle.eno.specs.Session.{in_hand}
use Rattle.door.specs.Numbers.{each_n}
use Rattle.door.specs.Door.{Seen}
use Rattle.door.specs.Outcome.{Outcome, Effect, keep, add, remove, refused}
use Rattle.door.specs.Calls.{Ask, outcome}
use Rattle.door.specs.Calls as door
use Rattle.unit.specs.Numbers.{doors_n}
use Rattle.unit.specs.Unit.{idle_position, empty_unit, position_at, count_of, mine, records_at, view, is_free}
use Rattle.unit.specs.Run.{Call, on, erase, Told, Step, carried, step_on, step, after, Moment, moment, moments, kept, strike}
use Rattle.unit.specs.Laws.Calls as calls
use Rattle.unit.proofs.Laws.Calls.{outcome_fits, outcome_own, never_six}
use Rattle.unit.specs.Invariant.{Inv, Fits}
use Rattle.unit.proofs.Invariant.{empty_inv, position_empty, free_while_fewer, inv_enact, view_same, view_other}
use Rattle.unit.specs.declared.LinkUnit.{LinkUnit}
use Rattle.unit.specs.Isolation.{idle_view, moments_of, view_after, NoSix, Isolated}

-- a door of ours in a unit that has the invariant
module _ (u : LinkUnit) (d : ℕ) (s : Inv u) (h : d < doors_n) where
  pub length_held : length (view u d).held ≡ count_of (position_at u d)
  unfolding records_at
  length_held = length-map (mine (position_at u d)) _ ∙ length-take-le _ _ (omega (arith, (s.door d h).size, (s.door d h).most))

  -- a row is free while the door holds fewer than its number
  pub free_row : length (view u d).held < each_n → is_free u ≡ true
  free_row f = lt-ltb _ _ (free_while_fewer u d s h (omega (arith, length_held)))

  fits : (e : Effect) → calls.Fits (is_free u) (view u d) e → Fits u d e
  fits keep f = tt
  fits (add r) f = (omega (arith, length_held, f.0), ltb-true _ _ f.1)
  fits (remove j) f = omega (arith, length_held, f)

  abbrev pub its : Ask → Outcome
  its a = outcome (is_free u) (view u d) a

  pub effect_fits : (a : Ask) → Fits u d (its a).effect
  effect_fits a = fits (its a).effect (outcome_fits (is_free u) (view u d) a)

  pub step_is : (a : Ask) → step u (on d a) ≡ carried u d (its a)
  unfolding step step_on
  step_is a = ap (λ (b : Bool). step_on b u d a) (lt-ltb d doors_n h)

  its_own : (a : Ask) → its a ≡ outcome true (view u d) a
  its_own a = outcome_own (is_free u) (view u d) a free_row

  abbrev tell_of : Outcome → Told
  tell_of o = record { reply = o.reply; buffer = o.buffer }

  -- a call of the door is its view's outcome
  pub told_own : (a : Ask) → (step u (on d a)).told ≡ tell_of (outcome true (view u d) a)
  unfolding carried
  told_own a = ap (λ (x : Step). x.told) (step_is a) ∙ ap tell_of (its_own a)

  pub view_own : (a : Ask) → view (step u (on d a)).unit d ≡ door.after (view u d) (outcome true (view u d) a)
  unfolding carried door.after
  view_own a =
      ap (λ (x : Step). view x.unit d) (step_is a)
      ∙ (view_same u d s h (its a).door (its a).effect (effect_fits a) ∙ ap (door.after (view u d)) (its_own a))

  -- the invariant stays, and another door's view stays
  pub inv_on : (a : Ask) → Inv (step u (on d a)).unit
  unfolding carried
  inv_on a = rw (step_is a) (inv_enact u d s h (its a).effect (its a).door (effect_fits a))

  pub view_on : (a : Ask) (e : ℕ) → e < doors_n → e ≢ d → view (step u (on d a)).unit e ≡ view u e
  unfolding carried
  view_on a e l n = ap (λ (x : Step). view x.unit e) (step_is a) ∙ view_other u d s h (its a).door (its a).effect (effect_fits a) e l n

-- any call
on_view : (b : Bool) (u : LinkUnit) (d : ℕ) (a : Ask) → ltb d doors_n ≡ b → Inv u → (e : ℕ) → e < doors_n → e ≢ d → view (step u (on d a)).unit e ≡ view u e
unfolding step step_on
on_view true u d a q s e l n = view_on u d s (ltb-true d doors_n q) a e l n
on_view false u d a q s e l n = rw q refl

-- a call changes its own door's view alone
pub view_step : (u : LinkUnit) (d : ℕ) (a : Ask) → Inv u → (e : ℕ) → e < doors_n → e ≢ d → view (step u (on d a)).unit e ≡ view u e
view_step u d a s e l n = on_view (ltb d doors_n) u d a refl s e l n

on_inv : (b : Bool) (u : LinkUnit) (d : ℕ) (a : Ask) → ltb d doors_n ≡ b → Inv u → Inv (step u (on d a)).unit
unfolding step step_on
on_inv true u d a e s = inv_on u d s (ltb-true d doors_n e) a
on_inv false u d a e s = rw e s

-- every call keeps the invariant
pub inv_step : (u : LinkUnit) (c : Call) → Inv u → Inv (step u c).unit
unfolding step
inv_step u erase s = empty_inv
inv_step u (on d a) s = on_inv (ltb d doors_n) u d a refl s

pub inv_after : (u : LinkUnit) → Inv u → (cs : List Call) → Inv (after u cs)
unfolding after
inv_after u s [] = s
inv_after u s (c ∷ cs) = inv_after (step u c).unit (inv_step u c s) cs

pub view_empty : (d : ℕ) → d < doors_n → view empty_unit d ≡ idle_view
unfolding idle_view records_at idle_position
view_empty d h =
    let z : min 0 each_n ≡ 0 = omega arith in
    rw (position_empty d h, z)

-- one call in the list, by whether it is for door d
module _ (d : ℕ) (h : d < doors_n) (u : LinkUnit) (s : Inv u) (e : ℕ) (a : Ask) where
  pub told_at : e ≡ d → (step u (on e a)).told ≡ record { reply = (outcome true (view u d) a).reply; buffer = (outcome true (view u d) a).buffer }
  told_at p = rw p (told_own u d s h a)

  pub view_at_lem : e ≡ d → view (step u (on e a)).unit d ≡ door.after (view u d) (outcome true (view u d) a)
  view_at_lem p = rw p (view_own u d s h a)

  pub view_off : (e ≡ d → ⊥) → view (step u (on e a)).unit d ≡ view u d
  view_off n = view_step u e a s d h (λ p. n (sym p))

  moments_on : (b : Bool) → eqb e d ≡ b → (ms : List Moment) (cs : List Call) → ms ≡ moments_of (view (step u (on e a)).unit d) cs
      → cond b (record { before = view u d; ask = a; told = (step u (on e a)).told; then = view (step u (on e a)).unit d } ∷ []) [] ++ ms ≡ moments_of (view u d) (cond b (on e a ∷ []) [] ++ cs)
  unfolding moments_of
  moments_on true q ms cs ih =
      ap₂ (λ (m : Moment) (l : List Moment). m ∷ l) (λ i. record { before = view u d; ask = a; told = told_at (eqb-true e d q) i; then = view_at_lem (eqb-true e d q) i })
      (ih ∙ ap (λ (v : Seen). moments_of v cs) (view_at_lem (eqb-true e d q)))
  moments_on false q ms cs ih = ih ∙ ap (λ (v : Seen). moments_of v cs) (view_off (eqb-false e d q))

  after_on : (b : Bool) → eqb e d ≡ b → (cs : List Call) → view_after (view (step u (on e a)).unit d) cs ≡ view_after (view u d) (cond b (on e a ∷ []) [] ++ cs)
  unfolding view_after
  after_on true q cs = ap (λ (v : Seen). view_after v cs) (view_at_lem (eqb-true e d q))
  after_on false q cs = ap (λ (v : Seen). view_after v cs) (view_off (eqb-false e d q))

-- the run of the unit, seen from door d, is the run of d's view over the struck list
pub moments_are : (d : ℕ) → d < doors_n → (u : LinkUnit) → Inv u → (cs : List Call) → moments u d cs ≡ moments_of (view u d) (strike d cs)
unfolding moments moment strike kept moments_of step
moments_are d h u s [] = refl
moments_are d h u s (erase ∷ cs) = moments_are d h empty_unit empty_inv cs ∙ ap (λ (v : Seen). moments_of v (strike d cs)) (view_empty d h)
moments_are d h u s (on e a ∷ cs) = moments_on d h u s e a (eqb e d) refl _ (strike d cs) (moments_are d h (step u (on e a)).unit (inv_step u (on e a) s) cs)

pub after_is : (d : ℕ) → d < doors_n → (u : LinkUnit) → Inv u → (cs : List Call) → view (after u cs) d ≡ view_after (view u d) (strike d cs)
unfolding after strike kept view_after step
after_is d h u s [] = refl
after_is d h u s (erase ∷ cs) = after_is d h empty_unit empty_inv cs ∙ ap (λ (v : Seen). view_after v (strike d cs)) (view_empty d h)
after_is d h u s (on e a ∷ cs) = after_is d h (step u (on e a)).unit (inv_step u (on e a) s) cs ∙ after_on d h u s e a (eqb e d) refl (strike d cs)

no_six : (v : Seen) (cs : List Call) → NoSix (moments_of v cs)
unfolding NoSix moments_of
no_six v [] = tt
no_six v (erase ∷ cs) = no_six idle_view cs
no_six v (on d a ∷ cs) =
    ((λ t role identifier secret q f. subst (λ (x : Ask). (outcome true v x).reply ≢ refused 6) (sym q) (never_six v t role identifier secret f)), no_six (door.after v (outcome true v a)) cs)

-- take any two lists of calls from an empty unit, pick one door, and strike from both every call for another door: if the rest is alike, so is what the door is given
pub isolation : (d : ℕ) → d < doors_n → (xs ys : List Call) → strike d xs ≡ strike d ys → Isolated d xs ys
isolation d h xs ys e =
    let m : moments empty_unit d xs ≡ moments empty_unit d ys =
    moments_are d h empty_unit empty_inv xs ∙ (ap (λ (l : List Call). moments_of (view empty_unit d) l) e ∙ sym (moments_are d h empty_unit empty_inv ys)) in
    let v : view (after empty_unit xs) d ≡ view (after empty_unit ys) d =
    after_is d h empty_unit empty_inv xs ∙ (ap (λ (l : List Call). view_after (view empty_unit d) l) e ∙ sym (after_is d h empty_unit empty_inv ys)) in
    record {
      answers = ap (λ (l : List Moment). map (λ (m : Moment). m.told) l) m;
      records = ap (λ (x : Seen). x.held) v;
      hand = ap (λ (x : Seen). in_hand x.door.hand) v;
      four_in_first = rw (moments_are d h empty_unit empty_inv xs) (no_six (view empty_unit d) (strike d xs));
      four_in_second = rw (moments_are d h empty_unit empty_inv ys) (no_six (view empty_unit d) (strike d ys));
    }
