-- Demand 2, by what the host sees: results of a door that say resumed, those of one connection counted once, are no more than its accepted stores.
use Rattle.std.specs.Prelude.{◌≡◌, Bool, cond, ◌&&◌, ◌||◌, List, [], ◌∷◌, ◌++◌, ℕ, ◌+◌, ◌≤◌, ◌<◌, eqb, get_or}
use Rattle.std.proofs.Math.Path.{refl, subst}
use Rattle.std.proofs.Common.{sym, ap, ◌∙◌, eqb-true}
use Rattle.std.proofs.Math.Bool.{true, false, not}
use Rattle.std.proofs.lemmas.Bool.{false≢true, eqb-false}
use Rattle.std.proofs.Math.Option.{Option, none, some}
use native.Mathlib.Omega.{arith}
use Rattle.eno.specs.Judge.{Way, fresh, resumed, is_resumed}
use Rattle.eno.specs.Session.{in_hand}
use Rattle.eno.proofs.Laws.Asked.{and_true}
use Rattle.eno.specs.declared.SessionRecord.{SessionRecord}
use Rattle.door.specs.Door.{Seen}
use Rattle.door.specs.Record.{past_end, first_that, is_session}
use Rattle.door.specs.Outcome.{Reply, refused, written, plain, now_in, encrypted, done, holds, Outcome, keep, unless}
use Rattle.door.specs.Receive as r
use Rattle.door.specs.Calls.{Ask, offer, answer, receive, resend, result, close, store, forget, count, outcome, effected}
use Rattle.door.specs.Calls as door
use Rattle.unit.specs.Numbers.{doors_n}
use Rattle.unit.specs.Unit.{empty_unit, view}
use Rattle.unit.specs.Run.{Call, on, erase, Told, step, after}
use Rattle.unit.specs.Isolation.{idle_view}
use Rattle.unit.proofs.Isolation.{view_empty, told_at, view_at_lem, view_off}
use Rattle.unit.specs.Resumption.{one, in_hand_that, accepted_by}
use Rattle.unit.proofs.Resumption.{idle_hand, tally, tally_snoc, tally_cut}
use Rattle.unit.specs.Entries.{forgotten, taken_if, is_written, entry}
use Rattle.unit.specs.History.{seen_after, door_after, told_after}
use Rattle.unit.proofs.History.{grows, reached, seen_one, told_is}
use Rattle.unit.proofs.Openings.{resumed_was_opened}
use Rattle.unit.proofs.AcceptedStores.{taken_not_stored}
use Rattle.unit.specs.Seen.{Exchange, exchanges_from, exchanges, says_resumed, begins_or_ends, has_said, resumed_seen, stores_seen}
use Rattle.unit.proofs.SeenLedger.{exchanges_one}
use Rattle.unit.proofs.Laws.Calls.{unless_law}
use Rattle.unit.specs.Laws.Deeds.{entry_of, Deed, leaves, adds, forgets, takes}
use Rattle.unit.proofs.Laws.Deeds.{deed}

module _ (p : List ℕ → Bool) where
  abbrev of : SessionRecord → Bool
  of s = p s.secret

  -- what is left to say: each record held, and the one in hand of a connection of which no result has said it
  abbrev unsaid : Bool → ℕ → ℕ
  unsaid true n = 0
  unsaid false n = n

  left : Bool → Seen → ℕ
  left said v = tally of v.held + unsaid said (in_hand_that of (in_hand v.door.hand))

  abbrev said_after : Bool → Ask → Reply → Bool
  said_after said q x = cond (begins_or_ends q x) false (says_resumed p q x || said)

  -- one call
  Bounded : Bool → Seen → Ask → Outcome → Type 0
  Bounded said v q x = one (says_resumed p q x.reply && not said) + left (said_after said q x.reply) (door.after v x) ≤ left said v + accepted_by of q x.reply

  unsaid_less : (said : Bool) (m n : ℕ) → m ≤ n → unsaid said m ≤ unsaid said n
  unsaid_less true m n h = omega arith
  unsaid_less false m n h = h

  -- a call of the same connection that is no result
  goes_on : (said : Bool) (v : Seen) (q : Ask) (x : Outcome) → says_resumed p q x.reply ≡ false → begins_or_ends q x.reply ≡ false → Deed v q x → Bounded said v q x
  unfolding Bounded left door.after effected
  goes_on said v q x s i (leaves e n f) = rw (e, s, i) (omega (arith, unsaid_less said (in_hand_that of (in_hand x.door.hand)) (in_hand_that of (in_hand v.door.hand)) (n of)))
  goes_on said v q x s i (adds y e g f a nh ni) =
      let w : accepted_by of q x.reply ≡ one (of y) = a of in
      rw (e, s, i, g) (omega (arith, w, tally_snoc of v.held y))
  goes_on said v q x s i (forgets t k e l g f) =
      rw (e, s, i, g) (omega (arith, tally_cut of (first_that (is_session t k) v.held) v.held l))
  goes_on said v q x s i (takes j l e g f) =
      rw (e, s, i, g) (omega (arith, tally_cut of j v.held l, at_most said (one (of (get_or v.held j past_end)))))
    where
      at_most : (b : Bool) (m : ℕ) → unsaid b m ≤ m
      at_most true m = omega arith
      at_most false m = omega arith

  -- another connection: what is in hand was held, and it is no result
  begins : (said : Bool) (v : Seen) (q : Ask) (x : Outcome) → says_resumed p q x.reply ≡ false → begins_or_ends q x.reply ≡ true
      → tally of (door.after v x).held + in_hand_that of (in_hand x.door.hand) ≤ tally of v.held → Bounded said v q x
  unfolding Bounded left door.after
  begins said v q x s i h = rw (s, i) (omega (arith, h))

  none_taken : (h : Option SessionRecord) → taken_if h ≡ [] → h ≡ none
  none_taken none e = refl
  none_taken (some y) e = let z : ◌≡◌ {A = ℕ} 0 1 = cc in absurd (omega arith)

  taken_not_forgotten : (h : Option SessionRecord) (t : ℕ) (k : List ℕ) → taken_if h ≡ forgotten t k ∷ [] → ⊥
  taken_not_forgotten none t k e = let z : ◌≡◌ {A = ℕ} 0 1 = cc in omega arith
  taken_not_forgotten (some s) t k e = let z : ◌≡◌ {A = ℕ} 0 1 = cc in omega arith

  -- an offer or answer that writes
  taking : (v : Seen) (q : Ask) (x : Outcome) → entry_of q x ≡ taken_if (in_hand x.door.hand) → Deed v q x → tally of (door.after v x).held + in_hand_that of (in_hand x.door.hand) ≤ tally of v.held
  unfolding door.after effected
  taking v q x t (leaves e n f) = rw (e, none_taken (in_hand x.door.hand) (sym t ∙ f)) (omega arith)
  taking v q x t (adds y e g f a nh ni) = absurd (taken_not_stored true (in_hand x.door.hand) y (sym t ∙ f))
  taking v q x t (forgets u k e l g f) = absurd (taken_not_forgotten (in_hand x.door.hand) u k (sym t ∙ f))
  taking v q x t (takes j l e g f) = rw (e, g) (omega (arith, tally_cut of j v.held l))

  written_entry : (q : Ask) (x : Outcome) → ((h : Option SessionRecord) → entry q x.reply h ≡ cond (is_written x.reply) (taken_if h) []) → is_written x.reply ≡ true → entry_of q x ≡ taken_if (in_hand x.door.hand)
  written_entry q x e w = e (in_hand x.door.hand) ∙ rw w

  -- a result leaves the door and its records as they are
  result_keeps : (v : Seen) (s : List ℕ) → ((outcome true v (result s)).door ≡ v.door) × ((outcome true v (result s)).effect ≡ keep)
  unfolding outcome r.result unless
  result_keeps v s = unless_law (λ x. (x.door ≡ v.door) × (x.effect ≡ keep)) _ v.door s _ (λ n. (refl, refl)) (λ t. (refl, refl))

  result_bound : (said : Bool) (v : Seen) (s : List ℕ) → (says_resumed p (result s) (outcome true v (result s)).reply ≡ true → 1 ≤ in_hand_that of (in_hand v.door.hand)) → Bounded said v (result s) (outcome true v (result s))
  unfolding Bounded left door.after effected accepted_by
  result_bound said v s h =
      let k = result_keeps v s in
      rw (k.0, k.1) (go said (says_resumed p (result s) (outcome true v (result s)).reply) h)
    where
      go : (c b : Bool) → (b ≡ true → 1 ≤ in_hand_that of (in_hand v.door.hand))
          → one (b && not c) + (tally of v.held + unsaid (b || c) (in_hand_that of (in_hand v.door.hand))) ≤ tally of v.held + unsaid c (in_hand_that of (in_hand v.door.hand)) + 0
      go true true f = omega arith
      go true false f = omega arith
      go false true f = let z = f refl in omega arith
      go false false f = omega arith

  closes : (v : Seen) → tally of (door.after v (outcome true v close)).held + in_hand_that of (in_hand (outcome true v close).door.hand) ≤ tally of v.held
  unfolding outcome r.close door.after effected
  closes v = rw idle_hand (omega arith)

  either : (b : Bool) (P : Type 0) → (b ≡ true → P) → (b ≡ false → P) → P
  either true P f g = f refl
  either false P f g = g refl

  call_bound : (said : Bool) (v : Seen) (q : Ask) → (says_resumed p q (outcome true v q).reply ≡ true → 1 ≤ in_hand_that of (in_hand v.door.hand)) → Bounded said v q (outcome true v q)
  unfolding entry
  call_bound said v (offer b aware mandatory list resume nonce s) h =
      let q = offer b aware mandatory list resume nonce s in
      let x = outcome true v q in
      either (is_written x.reply) (Bounded said v q x) (λ w. begins said v q x refl w (taking v q x (written_entry q x (λ m. refl) w) (deed v q))) (λ w. goes_on said v q x refl w (deed v q))
  call_bound said v (answer area aware mandatory list nonce s) h =
      let q = answer area aware mandatory list nonce s in
      let x = outcome true v q in
      either (is_written x.reply) (Bounded said v q x) (λ w. begins said v q x refl w (taking v q x (written_entry q x (λ m. refl) w) (deed v q))) (λ w. goes_on said v q x refl w (deed v q))
  call_bound said v (receive syn ack area) h = goes_on said v _ _ refl refl (deed v (receive syn ack area))
  call_bound said v (resend s) h = goes_on said v _ _ refl refl (deed v (resend s))
  call_bound said v (result s) h = result_bound said v s h
  call_bound said v close h = begins said v close (outcome true v close) refl refl (closes v)
  call_bound said v (store t role identifier secret) h = goes_on said v _ _ refl refl (deed v (store t role identifier secret))
  call_bound said v (forget t identifier) h = goes_on said v _ _ refl refl (deed v (forget t identifier))
  call_bound said v count h = goes_on said v _ _ refl refl (deed v count)

  -- a result that says resumed has the record in hand whose secret it gives
  is_resumed_lem : (w : Way) → is_resumed w ≡ true → w ≡ resumed
  is_resumed_lem fresh e = absurd (false≢true e)
  is_resumed_lem resumed e = refl

  module _ (d : ℕ) (h : d < doors_n) where
    in_hand_lem : (cs : List Call) (s : List ℕ) (x : Reply) → (told_after d cs (result s)).reply ≡ x → says_resumed p (result s) x ≡ true → 1 ≤ in_hand_that of (in_hand (door_after d cs).hand)
    in_hand_lem cs s (refused n) e t = absurd (false≢true t)
    in_hand_lem cs s (written n) e t = absurd (false≢true t)
    in_hand_lem cs s (plain n) e t = absurd (false≢true t)
    in_hand_lem cs s (now_in q) e t = absurd (false≢true t)
    in_hand_lem cs s done e t = absurd (false≢true t)
    in_hand_lem cs s (holds n) e t = absurd (false≢true t)
    in_hand_lem cs s (encrypted role byte way n secret) e t =
        let b = and_true (is_resumed way) (p secret) t in
        let y = resumed_was_opened d h cs s role byte n secret (e ∙ ap (λ (w : Way). encrypted role byte w n secret) (is_resumed_lem way b.0)) in
        let z : in_hand_that of (in_hand (door_after d cs).hand) ≡ 1 = ap (in_hand_that of) y.hand_is ∙ ap one (ap p (sym y.secret_is) ∙ b.1) in
        omega (arith, z)

    backed : (cs : List Call) (q : Ask) → says_resumed p q (outcome true (seen_after d cs) q).reply ≡ true → 1 ≤ in_hand_that of (in_hand (door_after d cs).hand)
    backed cs (offer b aware mandatory list resume nonce s) t = absurd (false≢true t)
    backed cs (answer area aware mandatory list nonce s) t = absurd (false≢true t)
    backed cs (receive syn ack area) t = absurd (false≢true t)
    backed cs (resend s) t = absurd (false≢true t)
    backed cs (result s) t = in_hand_lem cs s (outcome true (seen_after d cs) (result s)).reply (ap (λ (y : Told). y.reply) (told_is d h cs (result s))) t
    backed cs close t = absurd (false≢true t)
    backed cs (store u role identifier secret) t = absurd (false≢true t)
    backed cs (forget u identifier) t = absurd (false≢true t)
    backed cs count t = absurd (false≢true t)

    Balance : List Exchange → Seen → Type 0
    Balance es v = resumed_seen p d es + left (has_said p d es) v ≤ stores_seen of d es

    own_or_other : (b : Bool) (cs : List Call) (e : ℕ) (q : Ask) → eqb e d ≡ b → Balance (exchanges cs) (seen_after d cs)
        → Balance (record { call = on e q; told = (step (after empty_unit cs) (on e q)).told } ∷ exchanges cs) (view (step (after empty_unit cs) (on e q)).unit d)
    unfolding Balance resumed_seen has_said stores_seen Bounded
    own_or_other true cs e q i w =
        let u = after empty_unit cs in
        let s = reached d h cs in
        let c = call_bound (has_said p d (exchanges cs)) (seen_after d cs) q (backed cs q) in
        rw (i, view_at_lem d h u s e q (eqb-true e d i), told_at d h u s e q (eqb-true e d i)) (omega (arith, c, w))
    own_or_other false cs e q i w = rw (i, view_off d h (after empty_unit cs) (reached d h cs) e q (eqb-false e d i)) (omega (arith, w))

    erased : (cs : List Call) → Balance (exchanges cs) (seen_after d cs) → Balance (record { call = erase; told = (step (after empty_unit cs) erase).told } ∷ exchanges cs) idle_view
    unfolding Balance resumed_seen has_said stores_seen left idle_view tally
    erased cs w = rw idle_hand (omega (arith, w))

    one_more : (cs : List Call) (c : Call) → Balance (exchanges cs) (seen_after d cs) → Balance (exchanges (cs ++ c ∷ [])) (seen_after d (cs ++ c ∷ []))
    unfolding step
    one_more cs erase w = rw (exchanges_one cs erase, seen_one d h cs erase, view_empty d h) (erased cs w)
    one_more cs (on e q) w = rw (exchanges_one cs (on e q), seen_one d h cs (on e q)) (own_or_other (eqb e d) cs e q refl w)

    idle_balance : Balance [] idle_view
    unfolding Balance resumed_seen has_said stores_seen left idle_view tally
    idle_balance = rw idle_hand (omega arith)

    none_yet : Balance (exchanges []) (seen_after d [])
    unfolding exchanges exchanges_from after
    none_yet = subst (Balance []) (sym (view_empty d h)) idle_balance

    balance : (cs : List Call) → Balance (exchanges cs) (seen_after d cs)
    balance cs = grows (λ (xs : List Call). Balance (exchanges xs) (seen_after d xs)) one_more cs [] none_yet

-- for each door, over every list of calls from the empty unit, and every test of secrets (one secret, or any): the results that say resumed with a secret
-- that passes, those of one connection counted once, are no more than the accepted stores of a record with such a secret
pub no_more_resumed_than_stored : (p : List ℕ → Bool) (d : ℕ) → d < doors_n → (cs : List Call) → resumed_seen p d (exchanges cs) ≤ stores_seen (λ (s : SessionRecord). p s.secret) d (exchanges cs)
unfolding Balance
no_more_resumed_than_stored p d h cs = omega (arith, balance p d h cs)
