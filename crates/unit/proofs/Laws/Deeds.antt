-- What each call of a door does with the records that the door holds, beside what it enters in the ledger.
use Rattle.std.specs.Prelude.{◌≡◌, refl, Bool, true, false, cond, ◌||◌, List, [], ◌∷◌, ℕ, ◌≤◌, ◌<◌, ltb, length, get_or}
use Rattle.std.proofs.Common.{ap, ◌∙◌, arith, ltb-true}
use Rattle.std.proofs.Math.Option.{Option, none, some}
use Rattle.std.proofs.lemmas.Bool.{not-false}
use Rattle.eno.specs.declared.Cause.{Cause}
use Rattle.eno.specs.Area.{syn_option}
use Rattle.eno.specs.Session.{in_hand}
use Rattle.eno.specs.Judge as judged
use Rattle.eno.specs.Judge.{Judged, encrypt, judge}
use Rattle.eno.specs.declared.SessionRecord.{SessionRecord}
use Rattle.door.specs.Door.{Phase, idle, offering, crossed, answering, opened, unencrypted, phase_of, own_option, idle_door, Seen}
use Rattle.door.specs.Record.{past_end, record_at, first_that, is_session}
use Rattle.door.specs.Outcome.{Reply, refused, written, plain, done, Outcome, keep, add, remove, unless}
use Rattle.door.specs.Offer as o
use Rattle.door.specs.Offer.{offered_door}
use Rattle.door.specs.Answer as a
use Rattle.door.specs.Answer.{plain_for, with, plain_door, answered_door, answer_with}
use Rattle.door.specs.Receive as r
use Rattle.door.specs.Receive.{Turn, judging, comparing, presence, unchanged, out_of_turn, turn, open_door, judged_door, then_in, after_judging, plain_or, second_reason, presence_reason, received}
use Rattle.door.specs.Records as k
use Rattle.door.specs.Records.{is_held, is_in_hand}
use Rattle.door.specs.Calls.{Ask, offer, answer, receive, resend, result, close, store, forget, count, outcome}
use Rattle.door.specs.Calls as door
use Rattle.door.specs.declared.Door.{Door}
use Rattle.unit.proofs.Laws.Calls.{unless_law, or_false}
use Rattle.unit.specs.Resumption.{accepted_by}
use Rattle.unit.proofs.Resumption.{hand_back, none_in_hand, idle_hand, open_hand_less}
use Rattle.unit.specs.Entries.{taken_if, entry}
use Rattle.unit.specs.Laws.Deeds.{NoneNew, Deed, leaves, adds, forgets, takes}

-- a refusal
entry_refused : (q : Ask) (n : ℕ) (h : Option SessionRecord) → entry q (refused n) h ≡ []
unfolding entry
entry_refused (offer b aware mandatory list resume nonce s) n h = refl
entry_refused (answer area aware mandatory list nonce s) n h = refl
entry_refused (receive syn ack area) n h = refl
entry_refused (resend s) n h = refl
entry_refused (result s) n h = refl
entry_refused close n h = refl
entry_refused (store t role identifier secret) n h = refl
entry_refused (forget t identifier) n h = refl
entry_refused count n h = refl

same_door : (d : Door) → NoneNew d d
same_door d p = omega arith

refused_deed : (v : Seen) (q : Ask) (s : List ℕ) (x : Outcome) (n : ℕ) → Deed v q (unless (some n) v.door s x)
unfolding unless
refused_deed v q s x n = leaves refl (same_door v.door) (entry_refused q n (in_hand v.door.hand))

none_then : (d e : Door) → in_hand e.hand ≡ none → NoneNew d e
none_then d e h p = rw h (omega arith)

-- receive
plain_none : (d : Door) (n : Cause) → NoneNew d (plain_door n)
unfolding plain_door
plain_none d n = none_then d (plain_door n) none_in_hand

open_none : (d e : Door) → NoneNew d e → NoneNew d (open_door e)
unfolding open_door
open_none d e h p = let l = open_hand_less p e.resumed e.hand in let m = h p in omega arith

then_none : (d e : Door) (q : Phase) → NoneNew d e → NoneNew d (then_in q e)
then_none d e idle h = h
then_none d e offering h = h
then_none d e crossed h = h
then_none d e answering h = h
then_none d e opened h = open_none d e h
then_none d e unencrypted h = h

plain_or_none : (d e : Door) (x : Option Cause) → NoneNew d e → NoneNew d (plain_or x e)
plain_or_none d e none h = h
plain_or_none d e (some n) h = plain_none d n

judged_none : (d : Door) (q : Phase) (p : List ℕ) (j : Judged) → NoneNew d (after_judging d q p j)
unfolding judged_door
judged_none d q p (judged.refuse n) = same_door d
judged_none d q p (judged.plain n) = plain_none d n
judged_none d q p (encrypt role byte way t) = then_none d (judged_door d p role byte way) q (same_door d)

received_none : (d : Door) (t : Turn) (area : List ℕ) → NoneNew d (received d t area)
unfolding received
received_none d (judging q) area = judged_none d q (syn_option area) (judge d.mandatory (in_hand d.hand) (own_option d) area)
received_none d (comparing q) area = plain_or_none d (then_in q d) (second_reason d area) (then_none d d q (same_door d))
received_none d presence area = plain_or_none d (open_door d) (presence_reason area) (open_none d d (same_door d))
received_none d unchanged area = same_door d
received_none d out_of_turn area = same_door d

-- offer and answer
taking : (v : Seen) (q : Ask) (j : ℕ) (e : Door) (w : Reply) (s : List ℕ) → ((h : Option SessionRecord) → entry q w h ≡ taken_if h) → in_hand e.hand ≡ record_at v.held j
    → Deed v q (record { reply = w; buffer = s; door = e; effect = cond (ltb j (length v.held)) (remove j) keep })
unfolding record_at
taking v q j e w s f h = go (ltb j (length v.held)) refl h
  where
    go : (b : Bool) → ltb j (length v.held) ≡ b → in_hand e.hand ≡ cond b (some (get_or v.held j past_end)) none → Deed v q (record { reply = w; buffer = s; door = e; effect = cond b (remove j) keep })
    go true t h = takes j (ltb-true _ _ t) refl h (f (in_hand e.hand) ∙ ap taken_if h)
    go false t h = leaves refl (none_then v.door e h) (f (in_hand e.hand) ∙ ap taken_if h)

offered_deed : (v : Seen) (b : ℕ) (aware mandatory : Bool) (list : List ℕ) (resume : Bool) (nonce s : List ℕ) (j : ℕ) (w : List ℕ) (n : ℕ) (z : List ℕ)
    → Deed v (offer b aware mandatory list resume nonce s) (record { reply = written n; buffer = z; door = offered_door w mandatory (record_at v.held j); effect = cond (ltb j (length v.held)) (remove j) keep })
unfolding offered_door entry
offered_deed v b aware mandatory list resume nonce s j w n z = taking v _ j (offered_door w mandatory (record_at v.held j)) (written n) z (λ h. refl) (hand_back (record_at v.held j))

answered_deed : (v : Seen) (area : List ℕ) (aware mandatory : Bool) (list nonce s : List ℕ) (p : List ℕ) (w : a.Answering) → Deed v (answer area aware mandatory list nonce s) (answer_with v aware mandatory p nonce s w)
unfolding answer_with answered_door entry
answered_deed v area aware mandatory list nonce s p (plain_for n) = leaves refl (plain_none v.door n) refl
answered_deed v area aware mandatory list nonce s p (with c) = taking v _ c.at _ (written _) _ (λ h. refl) (hand_back (record_at v.held c.at))

stored_deed : (v : Seen) (t role : ℕ) (identifier secret : List ℕ) → is_held t identifier v.held || is_in_hand t identifier (in_hand v.door.hand) ≡ false
    → Deed v (store t role identifier secret) (record { reply = done; buffer = []; door = v.door; effect = add (record { tep = t; role = role; identifier = identifier; secret = secret }) })
unfolding entry accepted_by
stored_deed v t role identifier secret e =
    let f = or_false (is_held t identifier v.held) (is_in_hand t identifier (in_hand v.door.hand)) e in
    adds (record { tep = t; role = role; identifier = identifier; secret = secret }) refl refl refl (λ p. refl) f.0 f.1

forgotten_deed : (v : Seen) (t : ℕ) (identifier : List ℕ) → is_held t identifier v.held ≡ true
    → Deed v (forget t identifier) (record { reply = done; buffer = []; door = v.door; effect = remove (first_that (is_session t identifier) v.held) })
unfolding entry is_held
forgotten_deed v t identifier e = forgets t identifier refl (ltb-true _ _ e) refl refl

-- the nine calls
pub deed : (v : Seen) (q : Ask) → Deed v q (outcome true v q)
unfolding outcome o.offer a.answer r.receive r.resend r.result r.close k.store k.forget k.count entry
deed v (offer b aware mandatory list resume nonce s) =
    unless_law (Deed v (offer b aware mandatory list resume nonce s)) _ v.door s _ (refused_deed v _ s _) (λ x. offered_deed v b aware mandatory list resume nonce s (o.offered_at resume list v.held) _ _ _)
deed v (answer area aware mandatory list nonce s) =
    unless_law (Deed v (answer area aware mandatory list nonce s)) _ v.door s _ (refused_deed v _ s _) (λ x. answered_deed v area aware mandatory list nonce s _ _)
deed v (receive syn ack area) =
    unless_law (Deed v (receive syn ack area)) _ v.door [] _ (refused_deed v _ [] _) (λ x. leaves refl (received_none v.door (turn (phase_of v.door.phase) syn ack) area) refl)
deed v (resend s) = unless_law (Deed v (resend s)) _ v.door s _ (refused_deed v _ s _) (λ x. leaves refl (same_door v.door) refl)
deed v (result s) = unless_law (Deed v (result s)) _ v.door s _ (refused_deed v _ s _) (λ x. leaves refl (same_door v.door) refl)
deed v close = leaves refl (none_then v.door idle_door idle_hand) refl
deed v (store t role identifier secret) =
    unless_law (Deed v (store t role identifier secret)) _ v.door [] _ (refused_deed v _ [] _) (λ x. stored_deed v t role identifier secret x.1.1.0)
deed v (forget t identifier) =
    unless_law (Deed v (forget t identifier)) _ v.door [] _ (refused_deed v _ [] _) (λ x. forgotten_deed v t identifier (not-false _ x.1.0))
deed v count = leaves refl (same_door v.door) refl
