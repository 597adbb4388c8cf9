-- Demand 2, for lists of calls: a record that a door holds, has in hand or resumes with is one that it stored, in every field.
use Rattle.std.specs.Prelude.{◌≡◌, refl, Bool, true, false, cond, ◌&&◌, List, [], ◌∷◌, ◌++◌, ℕ, zero, suc, ◌≤◌, ◌<◌, eqb}
use Rattle.std.proofs.Common.{sym, ap, ◌∙◌, append_assoc, arith, eq-eqb, eqb-true}
use Rattle.std.proofs.Math.Path.{subst}
use Rattle.std.proofs.lemmas.Bool.{false≢true}
use Rattle.std.proofs.Math.Option.{Option, none, some}
use Rattle.wire.specs.Bytes.{same_bytes}
use Rattle.wire.specs.ByteLaws.{same_yes, same_eq}
use Rattle.eno.specs.Session.{in_hand}
use Rattle.eno.specs.Judge.{resumed}
use Rattle.eno.specs.Laws.Walk.{Every}
use Rattle.eno.proofs.Laws.Asked.{and_true}
use Rattle.eno.specs.declared.SessionRecord.{SessionRecord}
use Rattle.door.specs.Door.{Seen}
use Rattle.door.proofs.Laws.Choice.{every_at}
use Rattle.door.specs.Outcome.{Reply, refused, written, plain, now_in, encrypted, done, holds, Outcome}
use Rattle.door.specs.Calls.{Ask, offer, answer, receive, resend, result, close, store, forget, count, outcome, cut, effected}
use Rattle.door.specs.Calls as door
use Rattle.door.specs.declared.Door.{Door}
use Rattle.unit.specs.Numbers.{doors_n}
use Rattle.unit.specs.Unit.{empty_unit, view}
use Rattle.unit.specs.Run.{Call, on, erase, Told, step, after}
use Rattle.unit.specs.Isolation.{idle_view}
use Rattle.unit.proofs.Isolation.{view_empty}
use Rattle.unit.specs.Resumption.{one, in_hand_that}
use Rattle.unit.proofs.Resumption.{idle_hand}
use Rattle.unit.specs.Entries.{Entry, stored, forgotten, taken_if, is_done, is_written, entry}
use Rattle.unit.specs.History.{seen_after, door_after, told_after}
use Rattle.unit.proofs.History.{after_one, told_is, along}
use Rattle.unit.proofs.Openings.{resumed_was_opened}
use Rattle.unit.specs.Laws.Deeds.{Deed, leaves, adds, forgets, takes}
use Rattle.unit.proofs.Laws.Deeds.{deed}
use Rattle.unit.specs.declared.LinkUnit.{LinkUnit}
use Rattle.unit.specs.AcceptedStores.{NotErase, storing, AcceptedStore, ResumedFromStore, OfHand}

-- two records, field by field
alike : SessionRecord → SessionRecord → Bool
alike r s = eqb r.tep s.tep && (eqb r.role s.role && (same_bytes r.identifier s.identifier && same_bytes r.secret s.secret))

alike_self : (r : SessionRecord) → alike r r ≡ true
unfolding alike
alike_self r = rw (eq-eqb r.tep r.tep refl, eq-eqb r.role r.role refl, sym (same_yes r.identifier), sym (same_yes r.secret))

alike_same : (r s : SessionRecord) → alike r s ≡ true → r ≡ s
unfolding alike
alike_same r s e =
    let a = and_true _ _ e in
    let b = and_true _ _ a.1 in
    let c = and_true _ _ b.1 in
    let t = eqb-true r.tep s.tep a.0 in
    let o = eqb-true r.role s.role b.0 in
    let i = same_eq r.identifier s.identifier c.0 in
    let k = same_eq r.secret s.secret c.1 in
    λ j. record { tep = t j; role = o j; identifier = i j; secret = k j }

-- where nothing new comes in hand, what holds of the record in hand still does
of_hand_lem : (P : SessionRecord → Type 0) (was is : Option SessionRecord) → ((p : SessionRecord → Bool) → in_hand_that p is ≤ in_hand_that p was) → OfHand P was → OfHand P is
of_hand_lem P was none f w = tt
of_hand_lem P none (some r) f w = let z = f (λ s. true) in absurd (omega arith)
of_hand_lem P (some s) (some r) f w = go (alike r s) refl
  where
    go : (b : Bool) → alike r s ≡ b → P r
    go true q = subst P (sym (alike_same r s q)) w
    go false q =
        let z = f (alike r) in
        let x : one (alike r r) ≡ 1 = ap one (alike_self r) in
        let y : one (alike r s) ≡ 0 = ap one q in
        absurd (omega (arith, z, x, y))

every_cut : (P : SessionRecord → Type 0) (j : ℕ) (l : List SessionRecord) → Every P l → Every P (cut j l)
unfolding cut
every_cut P j [] w = tt
every_cut P zero (x ∷ l) w = w.1
every_cut P (suc j) (x ∷ l) w = (w.0, every_cut P j l w.1)

every_snoc : {X : Type 0} (P : X → Type 0) (x : X) (l : List X) → P x → Every P l → Every P (l ++ x ∷ [])
every_snoc P x [] h w = (h, tt)
every_snoc P x (y ∷ l) h w = (w.0, every_snoc P x l h w.1)

every_map : (P Q : SessionRecord → Type 0) → ((r : SessionRecord) → P r → Q r) → (l : List SessionRecord) → Every P l → Every Q l
every_map P Q f [] w = tt
every_map P Q f (x ∷ l) w = (f x w.0, every_map P Q f l w.1)

hand_map : (P Q : SessionRecord → Type 0) → ((r : SessionRecord) → P r → Q r) → (h : Option SessionRecord) → OfHand P h → OfHand Q h
hand_map P Q f none w = tt
hand_map P Q f (some r) w = f r w

-- only an accepted store is entered as stored
record IsStore (q : Ask) (x : Reply) (s : SessionRecord) : Type 0 where
  asked : q ≡ storing s
  replied : x ≡ done

none_stored : (s : SessionRecord) → ◌≡◌ {A = List Entry} [] (stored s ∷ []) → ⊥
none_stored s e = let z : ◌≡◌ {A = ℕ} 0 1 = cc in omega arith

pub taken_not_stored : (b : Bool) (h : Option SessionRecord) (s : SessionRecord) → cond b (taken_if h) [] ≡ stored s ∷ [] → ⊥
taken_not_stored false h s e = none_stored s e
taken_not_stored true none s e = none_stored s e
taken_not_stored true (some r) s e = let z : ◌≡◌ {A = ℕ} 0 1 = cc in omega arith

forgotten_not_stored : (b : Bool) (t : ℕ) (identifier : List ℕ) (s : SessionRecord) → cond b (forgotten t identifier ∷ []) [] ≡ stored s ∷ [] → ⊥
forgotten_not_stored false t identifier s e = none_stored s e
forgotten_not_stored true t identifier s e = let z : ◌≡◌ {A = ℕ} 0 1 = cc in omega arith

is_done_lem : (x : Reply) → is_done x ≡ true → x ≡ done
is_done_lem (refused n) e = absurd (false≢true e)
is_done_lem (written n) e = absurd (false≢true e)
is_done_lem (plain n) e = absurd (false≢true e)
is_done_lem (now_in q) e = absurd (false≢true e)
is_done_lem (encrypted role byte way n secret) e = absurd (false≢true e)
is_done_lem done e = refl
is_done_lem (holds n) e = absurd (false≢true e)

store_entered : (q : Ask) (x : Reply) (h : Option SessionRecord) (s : SessionRecord) → entry q x h ≡ stored s ∷ [] → IsStore q x s
unfolding entry
store_entered (offer b aware mandatory list resume nonce w) x h s e = absurd (taken_not_stored (is_written x) h s e)
store_entered (answer area aware mandatory list nonce w) x h s e = absurd (taken_not_stored (is_written x) h s e)
store_entered (receive syn ack area) x h s e = absurd (none_stored s e)
store_entered (resend w) x h s e = absurd (none_stored s e)
store_entered (result w) x h s e = absurd (none_stored s e)
store_entered close x h s e = absurd (none_stored s e)
store_entered (store t role identifier secret) x h s e = go (is_done x) refl e
  where
    go : (b : Bool) → is_done x ≡ b → cond b (stored (record { tep = t; role = role; identifier = identifier; secret = secret }) ∷ []) [] ≡ stored s ∷ [] → IsStore (store t role identifier secret) x s
    go true q f = let z : record { tep = t; role = role; identifier = identifier; secret = secret } ≡ s = cc in record { asked = ap (λ (r : SessionRecord). storing r) z; replied = is_done_lem x q }
    go false q f = absurd (none_stored s f)
store_entered (forget t identifier) x h s e = absurd (forgotten_not_stored (is_done x) t identifier s e)
store_entered count x h s e = absurd (none_stored s e)

module _ (d : ℕ) (h : d < doors_n) where
  -- every record that the door holds or has in hand
  abbrev AllStored : List Call → Seen → Type 0
  AllStored cs v = Every (AcceptedStore d cs) v.held × OfHand (AcceptedStore d cs) (in_hand v.door.hand)

  store_more : (cs : List Call) (c : Call) → NotErase c → (r : SessionRecord) → AcceptedStore d cs r → AcceptedStore d (cs ++ c ∷ []) r
  store_more cs c n r x =
      record {
        before = x.before;
        later = x.later ++ c ∷ [];
        are = ap (λ (l : List Call). l ++ c ∷ []) x.are ∙ append_assoc x.before (on d (storing r) ∷ x.later) (c ∷ []);
        accepted = x.accepted;
        not_erased = every_snoc NotErase c x.later n x.not_erased;
      }

  all_more : (cs : List Call) (c : Call) → NotErase c → (v : Seen) → AllStored cs v → AllStored (cs ++ c ∷ []) v
  all_more cs c n v w = (
    every_map (AcceptedStore d cs) (AcceptedStore d (cs ++ c ∷ [])) (store_more cs c n) v.held w.0,
    hand_map (AcceptedStore d cs) (AcceptedStore d (cs ++ c ∷ [])) (store_more cs c n) (in_hand v.door.hand) w.1,
  )

  idle_stored : (cs : List Call) → AllStored cs idle_view
  unfolding idle_view
  idle_stored cs = (tt, rw idle_hand tt)

  other_stored : (cs : List Call) (c : Call) → seen_after d (cs ++ c ∷ []) ≡ seen_after d cs → AllStored cs (seen_after d cs) → AllStored (cs ++ c ∷ []) (seen_after d cs)
  unfolding step
  other_stored cs (on e a) q w = all_more cs (on e a) tt (seen_after d cs) w
  other_stored cs erase q w = subst (AllStored (cs ++ erase ∷ [])) (sym (ap (λ (u : LinkUnit). view u d) (after_one empty_unit cs erase) ∙ view_empty d h) ∙ q) (idle_stored (cs ++ erase ∷ []))

  module _ (cs : List Call) (q : Ask) (w : AllStored cs (seen_after d cs)) where
    abbrev now : Outcome
    now = outcome true (seen_after d cs) q

    abbrev longer : List Call
    longer = cs ++ on d q ∷ []

    more : AllStored longer (seen_after d cs)
    more = all_more cs (on d q) tt (seen_after d cs) w

    this_store : (s : SessionRecord) → IsStore q now.reply s → AcceptedStore d longer s
    this_store s x =
        record {
          before = cs;
          later = [];
          are = ap (λ (y : Ask). cs ++ on d y ∷ []) x.asked;
          accepted = subst (λ (y : Ask). (told_after d cs y).reply ≡ done) x.asked (ap (λ (t : Told). t.reply) (told_is d h cs q) ∙ x.replied);
          not_erased = tt;
        }

    next : Deed (seen_after d cs) q now → AllStored longer (door.after (seen_after d cs) now)
    unfolding door.after effected
    next (leaves e n f) = (rw e more.0, of_hand_lem (AcceptedStore d longer) (in_hand (door_after d cs).hand) (in_hand now.door.hand) n more.1)
    next (adds s e g f a nh ni) = (
      rw e (every_snoc (AcceptedStore d longer) s (seen_after d cs).held (this_store s (store_entered q now.reply (in_hand now.door.hand) s f)) more.0),
      subst (λ (x : Door). OfHand (AcceptedStore d longer) (in_hand x.hand)) (sym g) more.1,
    )
    next (forgets t i e l g f) =
        (rw e (every_cut (AcceptedStore d longer) _ (seen_after d cs).held more.0), subst (λ (x : Door). OfHand (AcceptedStore d longer) (in_hand x.hand)) (sym g) more.1)
    next (takes j l e g f) = (
      rw e (every_cut (AcceptedStore d longer) j (seen_after d cs).held more.0),
      subst (OfHand (AcceptedStore d longer)) (sym g) (every_at (AcceptedStore d longer) (seen_after d cs).held j more.0 l),
    )

  all_stored : (cs : List Call) → AllStored cs (seen_after d cs)
  all_stored = along d h AllStored (idle_stored []) (λ cs. idle_stored (cs ++ erase ∷ [])) other_stored (λ cs q w. next cs q w (deed (seen_after d cs) q))

  -- every record that a door holds is that of an accepted store
  pub held_was_stored : (cs : List Call) → Every (AcceptedStore d cs) (seen_after d cs).held
  held_was_stored cs = (all_stored cs).0

  -- and so is the one in hand
  pub in_hand_was_stored : (cs : List Call) → OfHand (AcceptedStore d cs) (in_hand (door_after d cs).hand)
  in_hand_was_stored cs = (all_stored cs).1

  -- and the one that a connection is resumed with
  pub resumed_was_stored : (cs : List Call) (lent : List ℕ) (role byte n : ℕ) (secret : List ℕ) → (told_after d cs (result lent)).reply ≡ encrypted role byte resumed n secret → ResumedFromStore d cs secret
  resumed_was_stored cs lent role byte n secret e =
      let x = resumed_was_opened d h cs lent role byte n secret e in
      record { is_resumed_lem = x; by_store = subst (OfHand (AcceptedStore d cs)) x.hand_is (in_hand_was_stored cs) }
