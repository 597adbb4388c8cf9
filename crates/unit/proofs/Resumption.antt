-- Demand 2, for lists of calls: for a door, no record's identifier opens more resumed connections than times it was stored.
use Rattle.std.specs.Prelude.{◌≡◌, Bool, cond, ◌&&◌, ◌||◌, length, get_or}
use Rattle.std.proofs.Math.Path.{refl, ap}
use Rattle.std.proofs.Common.{◌∙◌, ltb-true}
use Rattle.std.proofs.Math.Bool.{true, false}
use Rattle.std.proofs.Math.Option.{Option, none, some}
use mathlib.Core.List.{List, [], ◌∷◌, ◌++◌}
use Prim.Native.Nat.{ℕ, zero, suc, ◌+◌, ◌≤◌, ◌<◌}
use native.Mathlib.Omega.{arith}
use Rattle.std.proofs.lemmas.Bool.{not-false}
use Rattle.std.proofs.Math.Dec.{ltb}
use Rattle.eno.specs.declared.Cause.{Cause}
use Rattle.wire.specs.Bytes.{same_bytes}
use Rattle.eno.specs.Area.{syn_option}
use Rattle.eno.specs.Session.{in_hand}
use Rattle.eno.specs.Judge as judged
use Rattle.eno.specs.Judge.{Judged, encrypt, judge}
use Rattle.eno.specs.declared.SessionRecord.{SessionRecord}
use Rattle.eno.specs.declared.InHand.{InHand}
use Rattle.door.specs.Door.{Phase, idle, offering, crossed, answering, opened, unencrypted, phase_of, own_option, empty_hand, hand_of, idle_door, Seen}
use Rattle.door.specs.Record.{past_end, record_at, first_that, is_session}
use Rattle.door.specs.Outcome.{Reply, plain, done, Outcome, keep, add, remove, unless}
use Rattle.door.specs.Offer as o
use Rattle.door.specs.Offer.{offered_door}
use Rattle.door.specs.Answer as a
use Rattle.door.specs.Answer.{plain_for, with, plain_door, answered_door, answer_with}
use Rattle.door.specs.Receive as r
use Rattle.door.specs.Receive.{Turn, judging, comparing, presence, unchanged, out_of_turn, turn, open_hand, open_door, judged_door, then_in, after_judging, plain_or, second_reason, presence_reason, received, is_open}
use Rattle.door.specs.Records as k
use Rattle.door.specs.Records.{is_held}
use Rattle.door.specs.Calls.{Ask, offer, answer, receive, resend, result, close, store, forget, count, outcome, cut, effected}
use Rattle.door.specs.Calls as door
use Rattle.door.specs.declared.Door.{Door}
use Rattle.unit.specs.Numbers.{doors_n}
use Rattle.unit.specs.Unit.{empty_unit}
use Rattle.unit.specs.Run.{Call, on, erase, moments, strike}
use Rattle.unit.proofs.Laws.Calls.{unless_law}
use Rattle.unit.proofs.Invariant.{empty_inv}
use Rattle.unit.specs.Isolation.{idle_view, moments_of}
use Rattle.unit.proofs.Isolation.{view_empty, moments_are}
use Rattle.unit.specs.Resumption.{one, in_hand_that, is_open_now, opening, opens_by, accepted_by, opens, stores}

pub hand_back : (x : Option SessionRecord) → in_hand (hand_of x) ≡ x
unfolding in_hand hand_of empty_hand
hand_back none = refl
hand_back (some s) = refl

pub none_in_hand : in_hand empty_hand ≡ none
unfolding in_hand empty_hand
none_in_hand = refl

pub idle_hand : in_hand idle_door.hand ≡ none
unfolding idle_door
idle_hand = none_in_hand

module _ (p : SessionRecord → Bool) where
  -- how many of a list pass
  unfoldable pub tally : List SessionRecord → ℕ
  tally [] = 0
  tally (s ∷ l) = one (p s) + tally l

  pub tally_snoc : (l : List SessionRecord) (s : SessionRecord) → tally (l ++ s ∷ []) ≡ tally l + one (p s)
  unfolding tally
  tally_snoc [] s = omega arith
  tally_snoc (x ∷ l) s = omega (arith, tally_snoc l s)

  pub tally_cut : (j : ℕ) (l : List SessionRecord) → j < length l → tally (cut j l) + one (p (get_or l j past_end)) ≡ tally l
  unfolding tally cut
  tally_cut j [] h = absurd (omega arith)
  tally_cut zero (x ∷ l) h = omega arith
  tally_cut (suc j) (x ∷ l) h = omega (arith, tally_cut j l (omega arith))

  -- what is left to open: each record held, and the one in hand of a connection that is not open yet
  abbrev unopened : Bool → ℕ → ℕ
  unopened true n = 0
  unopened false n = n

  loaded : Door → ℕ
  loaded d = unopened (is_open_now d) (in_hand_that p (in_hand d.hand))

  left : Seen → ℕ
  left v = tally v.held + loaded v.door

  -- a door moves on, and nothing is gained
  Tame : Door → Door → Type 0
  Tame d e = opens_by p d e + loaded e ≤ loaded d

  tame_same : (d : Door) → Tame d d
  unfolding Tame loaded
  tame_same d = go (is_open_now d) (in_hand_that p (in_hand d.hand))
    where
      go : (b : Bool) (n : ℕ) → opening b b n + unopened b n ≤ unopened b n
      go true n = omega arith
      go false n = omega arith

  -- nothing in hand afterwards
  tame_none : (d e : Door) → in_hand e.hand ≡ none → Tame d e
  unfolding Tame loaded
  tame_none d e q = rw q (go (is_open_now d) (is_open_now e) (unopened (is_open_now d) (in_hand_that p (in_hand d.hand))))
    where
      go : (b c : Bool) (m : ℕ) → opening b c 0 + unopened c 0 ≤ m
      go true true m = omega arith
      go true false m = omega arith
      go false true m = omega arith
      go false false m = omega arith

  -- not open before, and no more in hand
  tame_less : (d e : Door) → is_open_now d ≡ false → in_hand_that p (in_hand e.hand) ≤ in_hand_that p (in_hand d.hand) → Tame d e
  unfolding Tame loaded
  tame_less d e q h = rw q (go (is_open_now e) (in_hand_that p (in_hand e.hand)) (in_hand_that p (in_hand d.hand)) h)
    where
      go : (c : Bool) (n m : ℕ) → n ≤ m → opening false c n + unopened c n ≤ m
      go true n m h = omega arith
      go false n m h = omega arith

  pub open_hand_less : (b : Bool) (h : InHand) → in_hand_that p (in_hand (open_hand b h)) ≤ in_hand_that p (in_hand h)
  open_hand_less true h = omega arith
  open_hand_less false h = rw none_in_hand (omega arith)

  tame_open : (d e : Door) → is_open_now d ≡ false → in_hand_that p (in_hand e.hand) ≤ in_hand_that p (in_hand d.hand) → Tame d (open_door e)
  unfolding open_door
  tame_open d e q h = tame_less d (open_door e) q (let l = open_hand_less e.resumed e.hand in omega arith)

  tame_plain : (d : Door) (n : Cause) → Tame d (plain_door n)
  unfolding plain_door
  tame_plain d n = tame_none d (plain_door n) none_in_hand

  tame_then : (d e : Door) (q : Phase) → is_open_now d ≡ false → in_hand_that p (in_hand e.hand) ≤ in_hand_that p (in_hand d.hand) → Tame d (then_in q e)
  tame_then d e idle o h = tame_less d e o h
  tame_then d e offering o h = tame_less d e o h
  tame_then d e crossed o h = tame_less d e o h
  tame_then d e answering o h = tame_less d e o h
  tame_then d e opened o h = tame_open d e o h
  tame_then d e unencrypted o h = tame_less d e o h

  tame_plain_or : (d e : Door) (x : Option Cause) → Tame d e → Tame d (plain_or x e)
  tame_plain_or d e none t = t
  tame_plain_or d e (some n) t = tame_plain d n

  tame_judged : (d : Door) (q : Phase) (o : List ℕ) (j : Judged) → is_open_now d ≡ false → Tame d (after_judging d q o j)
  unfolding judged_door
  tame_judged d q o (judged.refuse n) e = tame_same d
  tame_judged d q o (judged.plain n) e = tame_plain d n
  tame_judged d q o (encrypt role byte way t) e = tame_then d (judged_door d o role byte way) q e (omega arith)

  -- an open door only stays as it is
  abbrev ClosedFor : Turn → Door → Type 0
  ClosedFor (judging q) d = is_open_now d ≡ false
  ClosedFor (comparing q) d = is_open_now d ≡ false
  ClosedFor presence d = is_open_now d ≡ false
  ClosedFor unchanged d = Unit {0}
  ClosedFor out_of_turn d = Unit {0}

  closed_for : (q : Phase) (syn ack : Bool) (d : Door) → phase_of d.phase ≡ q → ClosedFor (turn q syn ack) d
  unfolding turn
  closed_for idle syn ack d e = tt
  closed_for offering true true d e = ap is_open e
  closed_for offering true false d e = ap is_open e
  closed_for offering false ack d e = tt
  closed_for crossed true true d e = ap is_open e
  closed_for crossed true false d e = tt
  closed_for crossed false true d e = ap is_open e
  closed_for crossed false false d e = tt
  closed_for answering true true d e = tt
  closed_for answering true false d e = ap is_open e
  closed_for answering false true d e = ap is_open e
  closed_for answering false false d e = tt
  closed_for opened syn ack d e = tt
  closed_for unencrypted syn ack d e = tt

  tame_received : (d : Door) (t : Turn) (area : List ℕ) → ClosedFor t d → Tame d (received d t area)
  unfolding received
  tame_received d (judging q) area c = tame_judged d q (syn_option area) (judge d.mandatory (in_hand d.hand) (own_option d) area) c
  tame_received d (comparing q) area c = tame_plain_or d (then_in q d) (second_reason d area) (tame_then d d q c (omega arith))
  tame_received d presence area c = tame_plain_or d (open_door d) (presence_reason area) (tame_open d d c (omega arith))
  tame_received d unchanged area c = tame_same d
  tame_received d out_of_turn area c = tame_same d

  -- one call
  Bounded : Seen → Ask → Outcome → Type 0
  Bounded v q x = opens_by p v.door x.door + left (door.after v x) ≤ left v + accepted_by p q x.reply

  keeps : (v : Seen) (q : Ask) (x : Outcome) → x.effect ≡ keep → Tame v.door x.door → Bounded v q x
  unfolding Bounded left door.after Tame effected
  keeps v q x e t = rw e (omega arith)

  refused_bounded : (v : Seen) (q : Ask) (s : List ℕ) (x : Outcome) (n : ℕ) → Bounded v q (unless (some n) v.door s x)
  unfolding unless
  refused_bounded v q s x n = keeps v q _ refl (tame_same v.door)

  -- offer and answer: the record leaves the pool for the hand, and the door is not open
  taking : (v : Seen) (q : Ask) (j : ℕ) (e : Door) (w : Reply) (s : List ℕ) → is_open_now e ≡ false → in_hand e.hand ≡ record_at v.held j
      → Bounded v q (record { reply = w; buffer = s; door = e; effect = cond (ltb j (length v.held)) (remove j) keep })
  unfolding Bounded left door.after effected loaded record_at
  taking v q j e w s o h = rw (o, h) (go (ltb j (length v.held)) refl (is_open_now v.door))
    where
      go : (b : Bool) → ltb j (length v.held) ≡ b → (c : Bool)
          → opening c false (in_hand_that p (cond b (some (get_or v.held j past_end)) none)) + (tally (effected (cond b (remove j) keep) v.held) + in_hand_that p (cond b (some (get_or v.held j past_end)) none))
          ≤ tally v.held + unopened c (in_hand_that p (in_hand v.door.hand)) + accepted_by p q w
      go true t true = omega (arith, tally_cut j v.held (ltb-true _ _ t))
      go true t false = omega (arith, tally_cut j v.held (ltb-true _ _ t))
      go false t true = omega arith
      go false t false = omega arith

  offered_bounded : (v : Seen) (q : Ask) (j : ℕ) (w : List ℕ) (mandatory : Bool) (x : Reply) (s : List ℕ)
      → Bounded v q (record { reply = x; buffer = s; door = offered_door w mandatory (record_at v.held j); effect = cond (ltb j (length v.held)) (remove j) keep })
  unfolding offered_door phase_of
  offered_bounded v q j w mandatory x s = taking v q j (offered_door w mandatory (record_at v.held j)) x s refl (hand_back (record_at v.held j))

  answer_bounded : (v : Seen) (q : Ask) (aware mandatory : Bool) (o nonce s : List ℕ) (w : a.Answering) → Bounded v q (answer_with v aware mandatory o nonce s w)
  unfolding answer_with answered_door phase_of
  answer_bounded v q aware mandatory o nonce s (plain_for n) = keeps v q _ refl (tame_plain v.door n)
  answer_bounded v q aware mandatory o nonce s (with c) = taking v q c.at _ _ _ refl (hand_back (record_at v.held c.at))

  store_bounded : (v : Seen) (t role : ℕ) (identifier secret : List ℕ)
      → Bounded v (store t role identifier secret) (record { reply = done; buffer = []; door = v.door; effect = add (record { tep = t; role = role; identifier = identifier; secret = secret }) })
  unfolding Bounded left door.after effected accepted_by Tame
  store_bounded v t role identifier secret =
      omega (arith, tally_snoc v.held (record { tep = t; role = role; identifier = identifier; secret = secret }), tame_same v.door)

  forget_bounded : (v : Seen) (q : Ask) (j : ℕ) → j < length v.held → Bounded v q (record { reply = done; buffer = []; door = v.door; effect = remove j })
  unfolding Bounded left door.after effected Tame
  forget_bounded v q j h = omega (arith, tally_cut j v.held h, tame_same v.door)

  outcome_bounded : (v : Seen) (q : Ask) → Bounded v q (outcome true v q)
  unfolding outcome o.offer a.answer r.receive r.resend r.result r.close k.store k.forget k.count is_held
  outcome_bounded v (offer b aware mandatory list resume nonce s) =
      unless_law (Bounded v (offer b aware mandatory list resume nonce s)) _ v.door s _ (refused_bounded v _ s _) (λ x. offered_bounded v _ (o.offered_at resume list v.held) _ mandatory _ _)
  outcome_bounded v (answer area aware mandatory list nonce s) =
      unless_law (Bounded v (answer area aware mandatory list nonce s)) _ v.door s _ (refused_bounded v _ s _) (λ x. answer_bounded v _ aware mandatory _ nonce s _)
  outcome_bounded v (receive syn ack area) =
      unless_law (Bounded v (receive syn ack area)) _ v.door [] _ (refused_bounded v _ [] _)
      (λ x. keeps v _ _ refl (tame_received v.door (turn (phase_of v.door.phase) syn ack) area (closed_for (phase_of v.door.phase) syn ack v.door refl)))
  outcome_bounded v (resend s) = unless_law (Bounded v (resend s)) _ v.door s _ (refused_bounded v _ s _) (λ x. keeps v _ _ refl (tame_same v.door))
  outcome_bounded v (result s) = unless_law (Bounded v (result s)) _ v.door s _ (refused_bounded v _ s _) (λ x. keeps v _ _ refl (tame_same v.door))
  outcome_bounded v close = keeps v close _ refl (tame_none v.door idle_door idle_hand)
  outcome_bounded v (store t role identifier secret) =
      unless_law (Bounded v (store t role identifier secret)) _ v.door [] _ (refused_bounded v _ [] _) (λ x. store_bounded v t role identifier secret)
  outcome_bounded v (forget t identifier) =
      unless_law (Bounded v (forget t identifier)) _ v.door [] _ (refused_bounded v _ [] _)
      (λ x. forget_bounded v _ (first_that (is_session t identifier) v.held) (ltb-true _ _ (not-false _ x.1.0)))
  outcome_bounded v count = keeps v count _ refl (tame_same v.door)

  left_idle : left idle_view ≡ 0
  unfolding left idle_view tally loaded
  left_idle = rw idle_hand (go (is_open_now idle_door))
    where
      go : (b : Bool) → 0 + unopened b 0 ≡ 0
      go true = omega arith
      go false = omega arith

  run_bounded : (v : Seen) (cs : List Call) → opens p (moments_of v cs) ≤ left v + stores p (moments_of v cs)
  unfolding opens stores moments_of Bounded door.after
  run_bounded v [] = omega arith
  run_bounded v (erase ∷ cs) = omega (arith, run_bounded idle_view cs, left_idle)
  run_bounded v (on d q ∷ cs) = omega (arith, run_bounded (door.after v (outcome true v q)) cs, outcome_bounded v q)

-- for each door and identifier, over every list of calls from the empty unit: the connections that opened resumed with it are no more than its accepted stores
pub no_more_than_stored : (d : ℕ) → d < doors_n → (cs : List Call) (identifier : List ℕ)
    → opens (λ (s : SessionRecord). same_bytes identifier s.identifier) (moments empty_unit d cs) ≤ stores (λ (s : SessionRecord). same_bytes identifier s.identifier) (moments empty_unit d cs)
no_more_than_stored d h cs identifier =
    let q : SessionRecord → Bool = λ s. same_bytes identifier s.identifier in
    rw (moments_are d h empty_unit empty_inv cs, view_empty d h) (omega (arith, run_bounded q idle_view (strike d cs), left_idle q))
