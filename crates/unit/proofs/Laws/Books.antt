-- A door's records beside its entries: the same records, the same number, and no two alike, whatever is called.
use Rattle.std.specs.Prelude.{◌≡◌, Bool, ◌&&◌, ltb, eqb, get_or}
use Rattle.std.proofs.Math.Path.{refl, ap}
use Rattle.std.proofs.Common.{sym, ap₂, ◌∙◌, subst, arith, ltb-true, ltb-false, le-ltb, eq-eqb, eqb-true, length-append}
use Rattle.std.proofs.Math.Bool.{true, false, cond}
use Rattle.std.proofs.lemmas.Bool.{false≢true}
use Rattle.std.proofs.Math.Option.{Option, none, some}
use mathlib.Core.List.{List, [], ◌∷◌, ◌++◌}
use Prim.Native.Nat.{ℕ, zero, suc, ◌+◌, ◌≤◌, ◌<◌}
use Rattle.std.proofs.Math.ListN.{length}
use Rattle.wire.specs.Bytes.{same_bytes}
use Rattle.wire.specs.ByteLaws.{same_yes, same_eq}
use Rattle.eno.specs.Session.{in_hand}
use Rattle.eno.specs.declared.SessionRecord.{SessionRecord}
use Rattle.door.specs.Door.{Seen}
use Rattle.door.specs.Record.{past_end, first_that, is_session}
use Rattle.door.specs.Outcome.{Outcome}
use Rattle.door.specs.Records.{is_held, is_in_hand}
use Rattle.door.specs.Calls.{Ask, outcome, cut, effected}
use Rattle.door.specs.Calls as door
use Rattle.unit.proofs.Laws.Lists.{length_cut}
use Rattle.unit.specs.Laws.Deeds.{entry_of, Deed, leaves, adds, forgets, takes}
use Rattle.unit.proofs.Laws.Deeds.{deed}
use Rattle.unit.specs.Isolation.{idle_view}
use Rattle.unit.specs.Resumption.{one, in_hand_that, accepted_by}
use Rattle.unit.proofs.Resumption.{idle_hand, tally, tally_snoc, tally_cut}
use Rattle.unit.specs.Entries.{Entry, less, standing, stored_in, forgotten_in, taken_in}

-- the first that passes a test, and how many pass
module _ (p : SessionRecord → Bool) where
  pub tally_none : (l : List SessionRecord) → ltb (first_that p l) (length l) ≡ false → tally p l ≡ 0
  unfolding tally first_that
  tally_none [] e = refl
  tally_none (x ∷ l) e = go (p x) (ltb-false _ _ e) (λ h. tally_none l (le-ltb _ _ h))
    where
      go : (b : Bool) → suc (length l) ≤ cond b 0 (suc (first_that p l)) → (length l ≤ first_that p l → tally p l ≡ 0) → one b + tally p l ≡ 0
      go true h f = absurd (omega arith)
      go false h f = omega (arith, f (omega arith))

  tally_some : (l : List SessionRecord) (j : ℕ) → j < length l → p (get_or l j past_end) ≡ true → 0 < tally p l
  tally_some l j h e = let c = tally_cut p j l h in let w : one (p (get_or l j past_end)) ≡ 1 = ap one e in omega (arith, c, w)

  first_passes : (l : List SessionRecord) → first_that p l < length l → p (get_or l (first_that p l) past_end) ≡ true
  unfolding first_that
  first_passes [] h = absurd (omega arith)
  first_passes (x ∷ l) h = go (p x) refl h (λ k. first_passes l k)
    where
      go : (b : Bool) → p x ≡ b → cond b 0 (suc (first_that p l)) < suc (length l) → (first_that p l < length l → p (get_or l (first_that p l) past_end) ≡ true)
          → p (get_or (x ∷ l) (cond b 0 (suc (first_that p l))) past_end) ≡ true
      go true e k f = e
      go false e k f = f (omega arith)

  pub none_tally : (l : List SessionRecord) → tally p l ≡ 0 → ltb (first_that p l) (length l) ≡ false
  none_tally l e = go (ltb (first_that p l) (length l)) refl
    where
      go : (b : Bool) → ltb (first_that p l) (length l) ≡ b → b ≡ false
      go false q = refl
      go true q = let h = ltb-true (first_that p l) (length l) q in absurd (omega (arith, tally_some l (first_that p l) h (first_passes l h), e))

  pub tally_first : (l : List SessionRecord) → ltb (first_that p l) (length l) ≡ true → 0 < tally p l
  tally_first l q = let h = ltb-true (first_that p l) (length l) q in tally_some l (first_that p l) h (first_passes l h)

  -- where at most one passes, it is the first that does
  first_only : (l : List SessionRecord) (j : ℕ) → tally p l ≤ 1 → j < length l → p (get_or l j past_end) ≡ true → first_that p l ≡ j
  unfolding tally first_that
  first_only [] j m h e = absurd (omega arith)
  first_only (x ∷ l) j m h e = go j (p x) refl m h e (λ i. first_only l i)
    where
      go : (j : ℕ) (b : Bool) → p x ≡ b → one b + tally p l ≤ 1 → j < suc (length l) → p (get_or (x ∷ l) j past_end) ≡ true
          → ((i : ℕ) → tally p l ≤ 1 → i < length l → p (get_or l i past_end) ≡ true → first_that p l ≡ i) → cond b 0 (suc (first_that p l)) ≡ j
      go zero true q m h e f = refl
      go zero false q m h e f = absurd (false≢true (sym q ∙ e))
      go (suc j) true q m h e f = absurd (omega (arith, tally_some l j (omega arith) e))
      go (suc j) false q m h e f = ap suc (f j (omega arith) (omega arith) e)

pub session_self : (s : SessionRecord) → is_session s.tep s.identifier s ≡ true
unfolding is_session
session_self s = ap₂ (λ (a b : Bool). a && b) (eq-eqb s.tep s.tep refl) (sym (same_yes s.identifier))

and_true : (x y : Bool) → x && y ≡ true → (x ≡ true) × (y ≡ true)
and_true true y e = (refl, e)
and_true false y e = absurd (false≢true e)

-- no two records of a door, held or in hand, have the same TEP and identifier
abbrev pub Apart : Seen → Type 0
Apart v = (t : ℕ) (identifier : List ℕ) → tally (is_session t identifier) v.held + in_hand_that (is_session t identifier) (in_hand v.door.hand) ≤ 1

none_of_it : (t : ℕ) (identifier : List ℕ) (h : Option SessionRecord) → is_in_hand t identifier h ≡ false → in_hand_that (is_session t identifier) h ≡ 0
none_of_it t identifier none e = refl
none_of_it t identifier (some s) e = ap one e

-- a new record is like none
added_apart : (v : Seen) (s : SessionRecord) → is_held s.tep s.identifier v.held ≡ false → is_in_hand s.tep s.identifier (in_hand v.door.hand) ≡ false → Apart v
    → (t : ℕ) (identifier : List ℕ) (b : Bool) → is_session t identifier s ≡ b → tally (is_session t identifier) v.held + one b + in_hand_that (is_session t identifier) (in_hand v.door.hand) ≤ 1
unfolding is_held is_session
added_apart v s nh ni ap t identifier false e = let q = ap t identifier in omega arith
added_apart v s nh ni ap t identifier true e =
    let m = and_true (eqb s.tep t) (same_bytes s.identifier identifier) e in
    let a : s.tep ≡ t = eqb-true s.tep t m.0 in
    let b : s.identifier ≡ identifier = same_eq s.identifier identifier m.1 in
    subst (λ (z : ℕ). tally (is_session z identifier) v.held + 1 + in_hand_that (is_session z identifier) (in_hand v.door.hand) ≤ 1) a
    (subst (λ (i : List ℕ). tally (is_session s.tep i) v.held + 1 + in_hand_that (is_session s.tep i) (in_hand v.door.hand) ≤ 1) b
    (omega (arith, tally_none (is_session s.tep s.identifier) v.held nh, none_of_it s.tep s.identifier (in_hand v.door.hand) ni)))

apart_after : (v : Seen) (q : Ask) (x : Outcome) → Deed v q x → Apart v → Apart (door.after v x)
unfolding door.after effected
apart_after v q x (leaves e n f) m t identifier = rw e (let k = n (is_session t identifier) in let l = m t identifier in omega arith)
apart_after v q x (adds s e d f g nh ni) m t identifier =
    rw (e, d) (let c = added_apart v s nh ni m t identifier (is_session t identifier s) refl in omega (arith, c, tally_snoc (is_session t identifier) v.held s))
apart_after v q x (forgets u i e h d f) m t identifier =
    rw (e, d) (let l = m t identifier in omega (arith, l, tally_cut (is_session t identifier) (first_that (is_session u i) v.held) v.held h))
apart_after v q x (takes j h e w f) m t identifier = rw (e, w) (let l = m t identifier in omega (arith, l, tally_cut (is_session t identifier) j v.held h))

-- what stands in the ledger is what the door holds, and it is stores less forgets less takings
pub record Books (v : Seen) (es : List Entry) : Type 0 where
  pub holds : v.held ≡ standing es
  pub sum : length v.held + (forgotten_in es + taken_in es) ≡ stored_in es
  pub apart : Apart v

-- the j-th is found again by its TEP and identifier
again : (v : Seen) → Apart v → (j : ℕ) → j < length v.held → first_that (is_session (get_or v.held j past_end).tep (get_or v.held j past_end).identifier) v.held ≡ j
again v m j h =
    let s : SessionRecord = get_or v.held j past_end in
    let l = m s.tep s.identifier in
    first_only (is_session s.tep s.identifier) v.held j (omega arith) h (session_self s)

holds_after : (v : Seen) (q : Ask) (x : Outcome) (es : List Entry) → Deed v q x → Books v es → effected x.effect v.held ≡ standing (entry_of q x ++ es)
unfolding effected standing less
holds_after v q x es (leaves e n f) m = rw (e, f) m.holds
holds_after v q x es (adds s e d f g nh ni) m = rw (e, f) (ap (λ (l : List SessionRecord). l ++ s ∷ []) m.holds)
holds_after v q x es (forgets t i e h d f) m = rw (e, f) (ap (λ (l : List SessionRecord). cut (first_that (is_session t i) l) l) m.holds)
holds_after v q x es (takes j h e w f) m =
    let s : SessionRecord = get_or v.held j past_end in
    rw (e, f) (ap (λ (n : ℕ). cut n v.held) (sym (again v m.apart j h)) ∙ ap (λ (l : List SessionRecord). cut (first_that (is_session s.tep s.identifier) l) l) m.holds)

sum_after : (v : Seen) (q : Ask) (x : Outcome) (es : List Entry) → Deed v q x → length v.held + (forgotten_in es + taken_in es) ≡ stored_in es
    → length (effected x.effect v.held) + (forgotten_in (entry_of q x ++ es) + taken_in (entry_of q x ++ es)) ≡ stored_in (entry_of q x ++ es)
unfolding effected stored_in forgotten_in taken_in
sum_after v q x es (leaves e n f) m = rw (e, f) m
sum_after v q x es (adds s e d f g nh ni) m = rw (e, f) (omega (arith, m, length-append v.held (s ∷ [])))
sum_after v q x es (forgets t i e h d f) m = rw (e, f) (omega (arith, m, length_cut (first_that (is_session t i) v.held) v.held h))
sum_after v q x es (takes j h e w f) m = rw (e, f) (omega (arith, m, length_cut j v.held h))

pub books_after : (v : Seen) (q : Ask) (es : List Entry) → Books v es → Books (door.after v (outcome true v q)) (entry_of q (outcome true v q) ++ es)
unfolding door.after
books_after v q es m =
    record {
      holds = holds_after v q (outcome true v q) es (deed v q) m;
      sum = sum_after v q (outcome true v q) es (deed v q) m.sum;
      apart = apart_after v q (outcome true v q) (deed v q) m.apart;
    }

pub books_idle : Books idle_view []
unfolding idle_view standing stored_in forgotten_in taken_in tally
books_idle = record { holds = refl; sum = refl; apart = λ t identifier. rw idle_hand (omega arith) }

-- a call adds to the records of a TEP and identifier by an accepted store alone
grows : (p : SessionRecord → Bool) (v : Seen) (q : Ask) (x : Outcome) → Deed v q x → tally p (effected x.effect v.held) ≤ tally p v.held + accepted_by p q x.reply
unfolding effected
grows p v q x (leaves e n f) = rw e (omega arith)
grows p v q x (adds s e d f g nh ni) = rw (e, g p) (omega (arith, tally_snoc p v.held s))
grows p v q x (forgets t i e h d f) = rw e (omega (arith, tally_cut p (first_that (is_session t i) v.held) v.held h))
grows p v q x (takes j h e w f) = rw e (omega (arith, tally_cut p j v.held h))

pub grows_by_stores : (p : SessionRecord → Bool) (v : Seen) (q : Ask) → tally p (door.after v (outcome true v q)).held ≤ tally p v.held + accepted_by p q (outcome true v q).reply
unfolding door.after
grows_by_stores p v q = grows p v q (outcome true v q) (deed v q)
