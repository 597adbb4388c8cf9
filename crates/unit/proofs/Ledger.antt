-- The ledger of a door: what the pool holds for it, what count tells, and that a record once taken comes back by a store alone.
use Rattle.std.specs.Prelude.{◌≡◌, Bool, cond, ℕ, ◌+◌, ◌-◌, ◌≤◌, ◌<◌, eqb, length, get_or}
use Rattle.std.proofs.Math.Path.{refl, ap, ap₂}
use Rattle.std.proofs.Common.{sym, ◌∙◌, subst, eq-eqb, eqb-true}
use Rattle.std.proofs.Math.Bool.{true, false}
use Rattle.std.proofs.Math.Option.{some}
use mathlib.Core.List.{List, [], ◌∷◌, ◌++◌}
use native.Mathlib.Omega.{arith}
use Rattle.std.proofs.lemmas.Bool.{eqb-false}
use Rattle.eno.specs.Session.{in_hand}
use Rattle.eno.specs.declared.SessionRecord.{SessionRecord}
use Rattle.door.specs.Door.{Seen}
use Rattle.door.specs.Record.{past_end, is_session}
use Rattle.door.specs.Outcome.{holds, Outcome}
use Rattle.door.specs.Records.{is_held}
use Rattle.door.specs.Records as k
use Rattle.door.specs.Calls.{Ask, count, outcome}
use Rattle.door.specs.Calls as door
use Rattle.unit.specs.Numbers.{doors_n}
use Rattle.unit.specs.Unit.{empty_unit, view}
use Rattle.unit.specs.Run.{Call, on, erase, Told, step, after, Moment, moment, moments}
use Rattle.unit.specs.Invariant.{Inv}
use Rattle.unit.proofs.Invariant.{empty_inv}
use Rattle.unit.specs.Isolation.{idle_view}
use Rattle.unit.proofs.Isolation.{view_empty, inv_step, inv_after, told_own, told_at, view_at_lem, view_off}
use Rattle.unit.specs.Resumption.{one, in_hand_that, accepted_by, stores}
use Rattle.unit.proofs.Resumption.{tally}
use Rattle.unit.specs.Entries.{Entry, stored, forgotten, taken, entry}
use Rattle.unit.specs.Laws.Deeds.{entry_of, Deed, leaves, adds, forgets, takes}
use Rattle.unit.proofs.Laws.Deeds.{deed}
use Rattle.unit.proofs.Laws.Books.{Books, books_after, books_idle, grows_by_stores, none_tally, tally_first, session_self}
use Rattle.unit.specs.declared.LinkUnit.{LinkUnit}
use Rattle.unit.specs.Ledger.{entered, entries_after, entries_from, entries, ledger, accepted_stores, accepted_forgets, takings, CountTells, Consumed}

-- one call: the books stay right
module _ (d : ℕ) (h : d < doors_n) (u : LinkUnit) (s : Inv u) where
  entered_is : (a : Ask) → entered u d a ≡ entry_of a (outcome true (view u d) a)
  unfolding entered door.after
  entered_is a =
      ap₂ (λ (t : Told) (v : Seen). entry a t.reply (in_hand v.door.hand)) (told_at d h u s d a refl) (view_at_lem d h u s d a refl)

  books_on : (es : List Entry) → Books (view u d) es → (e : ℕ) (a : Ask) (b : Bool) → eqb e d ≡ b → Books (view (step u (on e a)).unit d) (cond b (entered u d a ++ es) es)
  books_on es m e a true q = rw (view_at_lem d h u s e a (eqb-true e d q), entered_is a) (books_after (view u d) a es m)
  books_on es m e a false q = rw (view_off d h u s e a (eqb-false e d q)) m

books_empty : (d : ℕ) → d < doors_n → Books (view empty_unit d) []
books_empty d h = subst (λ (v : Seen). Books v []) (sym (view_empty d h)) books_idle

books_run : (d : ℕ) → d < doors_n → (u : LinkUnit) → Inv u → (es : List Entry) → Books (view u d) es → (cs : List Call) → Books (view (after u cs) d) (entries_from u d es cs)
unfolding after entries_from entries_after step
books_run d h u s es m [] = m
books_run d h u s es m (erase ∷ cs) = books_run d h empty_unit empty_inv [] (books_empty d h) cs
books_run d h u s es m (on e a ∷ cs) = books_run d h (step u (on e a)).unit (inv_step u (on e a) s) _ (books_on d h u s es m e a (eqb e d) refl) cs

books : (d : ℕ) → d < doors_n → (cs : List Call) → Books (view (after empty_unit cs) d) (entries d cs)
unfolding entries
books d h cs = books_run d h empty_unit empty_inv [] (books_empty d h) cs

-- the pool holds for a door exactly the records of its ledger, in its order
pub pool_holds : (d : ℕ) → d < doors_n → (cs : List Call) → (view (after empty_unit cs) d).held ≡ ledger d cs
pool_holds d h cs = (books d h cs).holds

pub count_tells : (d : ℕ) → d < doors_n → (cs : List Call) → CountTells d cs
unfolding outcome k.count
count_tells d h cs =
    let m = (books d h cs).sum in
    let n : length (view (after empty_unit cs) d).held ≡ accepted_stores d cs - accepted_forgets d cs - takings d cs = omega (arith, m) in
    record {
      reply = ap (λ (t : Told). t.reply) (told_own (after empty_unit cs) d (inv_after empty_unit empty_inv cs) h count) ∙ ap holds n;
      no_fewer = omega (arith, m);
    }

-- no two records of a door, held or in hand, have the same TEP and identifier
pub no_two_alike : (d : ℕ) → d < doors_n → (cs : List Call) (t : ℕ) (identifier : List ℕ)
    → tally (is_session t identifier) (view (after empty_unit cs) d).held + in_hand_that (is_session t identifier) (in_hand (view (after empty_unit cs) d).door.hand) ≤ 1
no_two_alike d h cs t identifier = (books d h cs).apart t identifier

-- how many records that pass are held, over a run: none come but by a store
module _ (p : SessionRecord → Bool) (d : ℕ) (h : d < doors_n) where
  abbrev held_of : Seen → ℕ
  held_of v = tally p v.held

  none_held : held_of (view empty_unit d) ≡ 0
  unfolding tally idle_view
  none_held = ap held_of (view_empty d h)

  held_on : (u : LinkUnit) → Inv u → (e : ℕ) (a : Ask) (b : Bool) → eqb e d ≡ b → (ms : List Moment)
      → held_of (view (step u (on e a)).unit d) + stores p ms
      ≤ held_of (view u d) + stores p (cond b (record { before = view u d; ask = a; told = (step u (on e a)).told; then = view (step u (on e a)).unit d } ∷ []) [] ++ ms)
  unfolding stores
  held_on u s e a true q ms =
      let w : held_of (view (step u (on e a)).unit d) ≡ held_of (door.after (view u d) (outcome true (view u d) a)) = ap held_of (view_at_lem d h u s e a (eqb-true e d q)) in
      let t : accepted_by p a (step u (on e a)).told.reply ≡ accepted_by p a (outcome true (view u d) a).reply = ap (λ (x : Told). accepted_by p a x.reply) (told_at d h u s e a (eqb-true e d q)) in
      omega (arith, w, t, grows_by_stores p (view u d) a)
  held_on u s e a false q ms =
      let w : held_of (view (step u (on e a)).unit d) ≡ held_of (view u d) = ap held_of (view_off d h u s e a (eqb-false e d q)) in
      omega (arith, w)

  held_run : (u : LinkUnit) → Inv u → (cs : List Call) → held_of (view (after u cs) d) ≤ held_of (view u d) + stores p (moments u d cs)
  unfolding after moments moment step
  held_run u s [] = omega arith
  held_run u s (erase ∷ cs) = omega (arith, held_run empty_unit empty_inv cs, none_held)
  held_run u s (on e a ∷ cs) =
      omega (arith, held_run (step u (on e a)).unit (inv_step u (on e a) s) cs, held_on u s e a (eqb e d) refl (moments (step u (on e a)).unit d cs))

not_taken : (r : SessionRecord) → ◌≡◌ {A = List Entry} [] (taken r ∷ []) → ⊥
not_taken r e = let z : ◌≡◌ {A = ℕ} 0 1 = cc in omega arith

-- what is entered as taken is in hand
taken_in_hand : (v : Seen) (a : Ask) (x : Outcome) (r : SessionRecord) → Deed v a x → entry_of a x ≡ taken r ∷ [] → in_hand x.door.hand ≡ some r
taken_in_hand v a x r (leaves e n f) q = absurd (not_taken r (sym f ∙ q))
taken_in_hand v a x r (adds s e d f g nh ni) q = let w : stored s ∷ [] ≡ taken r ∷ [] = sym f ∙ q in let z : ◌≡◌ {A = ℕ} 0 1 = cc in absurd (omega arith)
taken_in_hand v a x r (forgets t i e h d f) q = let w : forgotten t i ∷ [] ≡ taken r ∷ [] = sym f ∙ q in let z : ◌≡◌ {A = ℕ} 0 1 = cc in absurd (omega arith)
taken_in_hand v a x r (takes j h e w f) q =
    let y : taken (get_or v.held j past_end) ∷ [] ≡ taken r ∷ [] = sym f ∙ q in
    let z : get_or v.held j past_end ≡ r = cc in
    w ∙ ap some z

-- an accepted offer or answer that leaves r in hand (nothing else is entered as `taken r`): r is not held afterwards, and only a new store brings it back
pub taken_only_by_store : (d : ℕ) → d < doors_n → (cs : List Call) (a : Ask) (r : SessionRecord) → entered (after empty_unit cs) d a ≡ taken r ∷ [] → Consumed (step (after empty_unit cs) (on d a)).unit d r
unfolding is_held door.after
taken_only_by_store d h cs a r e =
    let u = after empty_unit cs in
    let s = inv_after empty_unit empty_inv cs in
    let p : SessionRecord → Bool = is_session r.tep r.identifier in
    let w : in_hand (view (step u (on d a)).unit d).door.hand ≡ some r =
    ap (λ (v : Seen). in_hand v.door.hand) (view_at_lem d h u s d a refl)
    ∙ taken_in_hand (view u d) a (outcome true (view u d) a) r (deed (view u d) a) (sym (entered_is d h u s a) ∙ e) in
    let m = (books_on d h u s (entries d cs) (books d h cs) d a true (eq-eqb d d refl)).apart r.tep r.identifier in
    let one-in-hand : in_hand_that p (in_hand (view (step u (on d a)).unit d).door.hand) ≡ 1 = ap (in_hand_that p) w ∙ ap one (session_self r) in
    let z : tally p (view (step u (on d a)).unit d).held ≡ 0 = omega (arith, m, one-in-hand) in
    record {
      gone = none_tally p (view (step u (on d a)).unit d).held z;
      back =
          λ more q.
          omega (arith, z, held_run p d h (step u (on d a)).unit (inv_step u (on d a) s) more, tally_first p (view (after (step u (on d a)).unit more) d).held q);
    }
