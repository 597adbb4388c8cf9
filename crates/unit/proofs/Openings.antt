-- Demand 2, for lists of calls: every result that says resumed belongs to a connection that opened with that record in hand.
use Rattle.std.specs.Prelude.{◌≡◌, Bool, false, ◌⊎◌, ℕ, ◌+◌, ◌≤◌, ◌<◌}
use Rattle.std.proofs.Math.Path.{refl}
use Rattle.std.proofs.Common.{sym, ap, ◌∙◌, subst, true≢false, inl, inr, ⊎_elim, arith}
use Rattle.std.proofs.Math.Bool.{true}
use Rattle.std.proofs.Math.Option.{Option, none, some}
use mathlib.Core.List.{List, [], ◌∷◌, ◌++◌, append_assoc}
use borrow.Author.Tests.{eq-eqb}
use Rattle.std.proofs.Math.Dec.{eqb}
use Rattle.eno.specs.declared.Cause.{Cause}
use Rattle.wire.specs.Bytes.{same_bytes}
use Rattle.wire.specs.ByteLaws.{same_yes}
use Rattle.eno.specs.Area.{syn_option}
use Rattle.eno.specs.Session.{in_hand}
use Rattle.eno.specs.Judge as judged
use Rattle.eno.specs.Judge.{Way, fresh, resumed, way_if, Judged, encrypt, too_long, judge}
use Rattle.eno.specs.declared.SessionRecord.{SessionRecord}
use Rattle.door.specs.Door.{Phase, idle, offering, crossed, answering, opened, unencrypted, phase_of, own_option, empty_hand, hand_of, idle_door, Seen}
use Rattle.door.specs.Record.{record_at}
use Rattle.door.specs.Outcome.{plain, encrypted, Outcome, unless}
use Rattle.door.specs.Offer as o
use Rattle.door.specs.Offer.{offered_door}
use Rattle.door.specs.Answer as a
use Rattle.door.specs.Answer.{plain_for, with, plain_door, answered_door, answer_with}
use Rattle.door.specs.Receive as r
use Rattle.door.specs.Receive.{turn, open_door, judged_door, after_judging, plain_or, second_reason, presence_reason, received, is_open}
use Rattle.door.specs.Records as k
use Rattle.door.proofs.Verdict.{resumed_open_keeps, fresh_open_drops}
use Rattle.door.specs.Calls.{Ask, offer, answer, receive, resend, result, close, store, forget, count, outcome}
use Rattle.door.specs.Calls as door
use Rattle.door.specs.declared.Door.{Door}
use Rattle.unit.specs.Numbers.{doors_n}
use Rattle.unit.specs.Unit.{empty_unit, view}
use Rattle.unit.specs.Run.{Call, on, erase, Told, step, after, Moment, moment, moments}
use Rattle.unit.proofs.Laws.Calls.{unless_law}
use Rattle.unit.specs.Isolation.{idle_view}
use Rattle.unit.specs.Resumption.{one, is_open_now, opens_by, opens, stores}
use Rattle.unit.proofs.Resumption.{no_more_than_stored}
use Rattle.unit.specs.History.{seen_after, door_after, told_after, door_then, Since}
use Rattle.unit.proofs.History.{after_one, since_now, since_more, told_is, own_is, along, since_first}
use Rattle.unit.specs.declared.LinkUnit.{LinkUnit}
use Rattle.unit.specs.Confirmed.{Confirmed, by_verdict, by_same_option, by_presence}
use Rattle.unit.proofs.Confirmed.{second_same, presence_found}
use Rattle.unit.specs.Results.{Names}
use Rattle.unit.proofs.Results.{result_names, resumed_by_record, resumed_secret, fresh_secret}
use Rattle.unit.specs.Openings.{OpenedWith, Resumed, Fresh}

-- a door that says resumed has a record in hand
abbrev Backed : Door → Type 0
Backed e = e.resumed ≡ true → (x : SessionRecord) × (in_hand e.hand ≡ some x)

-- an open one that does not has none
abbrev Dropped : Door → Type 0
Dropped e = e.resumed ≡ false → in_hand e.hand ≡ none

-- what a call does to a door: nothing, or it leaves it not open, or it is a receive that opens it
data Move (d : Door) (q : Ask) (e : Door) : Type 0 where
  same : e ≡ d → Move d q e
  shut : is_open_now e ≡ false → Backed e → Move d q e
  opening_by : (syn ack : Bool) (area : List ℕ) → q ≡ receive syn ack area → is_open_now d ≡ false → Backed e → Dropped e → Confirmed d syn ack area → Move d q e

not_backed : (e : Door) → e.resumed ≡ false → Backed e
not_backed e f t = absurd (true≢false (sym t ∙ f))

plain_move : (d : Door) (q : Ask) (n : Cause) → Move d q (plain_door n)
unfolding plain_door phase_of
plain_move d q n = shut refl (not_backed (plain_door n) refl)

offered_move : (d : Door) (q : Ask) (w : List ℕ) (mandatory : Bool) (hand : Option SessionRecord) → Move d q (offered_door w mandatory hand)
unfolding offered_door phase_of
offered_move d q w mandatory hand = shut refl (not_backed (offered_door w mandatory hand) refl)

answered_move : (d : Door) (q : Ask) (w p : List ℕ) (mandatory : Bool) (t : ℕ) (hand : Option SessionRecord) → Move d q (answered_door w p mandatory t hand)
unfolding answered_door phase_of hand_of in_hand
answered_move d q w p mandatory t none = shut refl (not_backed (answered_door w p mandatory t none) refl)
answered_move d q w p mandatory t (some x) = shut refl (λ e. (x, refl))

idle_move : (d : Door) (q : Ask) → Move d q idle_door
unfolding idle_door phase_of
idle_move d q = shut refl (not_backed idle_door refl)

answer_move : (v : Seen) (q : Ask) (aware mandatory : Bool) (p nonce s : List ℕ) (w : a.Answering) → Move v.door q (answer_with v aware mandatory p nonce s w).door
unfolding answer_with
answer_move v q aware mandatory p nonce s (plain_for n) = plain_move v.door q n
answer_move v q aware mandatory p nonce s (with c) = answered_move v.door q _ p mandatory c.tep (record_at v.held c.at)

-- a door that opens
none_in_hand : in_hand empty_hand ≡ none
unfolding in_hand empty_hand
none_in_hand = refl

open_backed : (e : Door) → Backed e → Backed (open_door e)
unfolding open_door
open_backed e b t = let x = b t in (x.0, ap in_hand (resumed_open_keeps e t) ∙ x.1)

open_dropped : (e : Door) → Dropped (open_door e)
unfolding open_door
open_dropped e f = ap in_hand (fresh_open_drops e f) ∙ none_in_hand

judged_backed : (d : Door) (area : List ℕ) (role byte : ℕ) (way : Way) (t : List ℕ) → judge d.mandatory (in_hand d.hand) (own_option d) area ≡ encrypt role byte way t
    → Backed (judged_door d (syn_option area) role byte way)
unfolding judged_door
judged_backed d area role byte way t e w = resumed_by_record d.mandatory (in_hand d.hand) (own_option d) area role byte way t e w

-- one receive
module _ (d : Door) (b : Backed d) (syn ack : Bool) (area : List ℕ) where
  abbrev this : Ask
  this = receive syn ack area

  open_move : (e : Door) → is_open_now d ≡ false → Backed e → Confirmed d syn ack area → Move d this (open_door e)
  open_move e f x c = opening_by syn ack area refl f (open_backed e x) (open_dropped e) c

  plain_or_move : (m : Option Cause) (e : Door) → (m ≡ none → Move d this e) → Move d this (plain_or m e)
  plain_or_move none e x = x refl
  plain_or_move (some n) e x = plain_move d this n

  judged_open : (j : Judged) → judge d.mandatory (in_hand d.hand) (own_option d) area ≡ j → phase_of d.phase ≡ offering → syn ≡ true → ack ≡ true → Move d this (after_judging d opened (syn_option area) j)
  judged_open (judged.refuse n) e p s a = same refl
  judged_open (judged.plain n) e p s a = plain_move d this n
  judged_open (encrypt role byte way t) e p s a = open_move (judged_door d (syn_option area) role byte way) (ap is_open p) (judged_backed d area role byte way t e) (by_verdict p s a role byte way t e)

  -- the same option again; an ENO option in a non-SYN
  second_open : phase_of d.phase ≡ crossed → syn ≡ true → ack ≡ true → Move d this (plain_or (second_reason d area) (open_door d))
  second_open p s a = plain_or_move (second_reason d area) (open_door d) (λ n. open_move d (ap is_open p) b (by_same_option p s a (second_same d area n)))

  presence_open : (phase_of d.phase ≡ crossed) ⊎ (phase_of d.phase ≡ answering) → too_long area ≡ false → syn ≡ false → ack ≡ true → Move d this (plain_or (presence_reason area) (open_door d))
  presence_open w fits s a =
      plain_or_move (presence_reason area) (open_door d)
      (λ n. let x = presence_found area fits n in open_move d (⊎_elim (λ p. ap is_open p) (λ p. ap is_open p) w) b (by_presence w s a x.start x.len x.found_is))

  judged_crossed : (j : Judged) → judge d.mandatory (in_hand d.hand) (own_option d) area ≡ j → Move d this (after_judging d crossed (syn_option area) j)
  unfolding judged_door phase_of
  judged_crossed (judged.refuse n) e = same refl
  judged_crossed (judged.plain n) e = plain_move d this n
  judged_crossed (encrypt role byte way t) e = shut refl (judged_backed d area role byte way t e)

receive_move : (q : Phase) (syn ack : Bool) (d : Door) (area : List ℕ) → Backed d → too_long area ≡ false → phase_of d.phase ≡ q → Move d (receive syn ack area) (received d (turn q syn ack) area)
unfolding turn received
receive_move idle syn ack d area b fits e = same refl
receive_move offering true true d area b fits e = judged_open d b true true area _ refl e refl refl
receive_move offering true false d area b fits e = judged_crossed d b true false area _ refl
receive_move offering false ack d area b fits e = same refl
receive_move crossed true true d area b fits e = second_open d b true true area e refl refl
receive_move crossed true false d area b fits e = same refl
receive_move crossed false true d area b fits e = presence_open d b false true area (inl e) fits refl refl
receive_move crossed false false d area b fits e = same refl
receive_move answering true true d area b fits e = same refl
receive_move answering true false d area b fits e = plain_or_move d b true false area (second_reason d area) d (λ n. same refl)
receive_move answering false true d area b fits e = presence_open d b false true area (inr e) fits refl refl
receive_move answering false false d area b fits e = same refl
receive_move opened syn ack d area b fits e = same refl
receive_move unencrypted syn ack d area b fits e = same refl

-- any call
refused_move : (v : Seen) (q : Ask) (s : List ℕ) (x : Outcome) (n : ℕ) → Move v.door q (unless (some n) v.door s x).door
unfolding unless
refused_move v q s x n = same refl

moves : (v : Seen) (q : Ask) → Backed v.door → Move v.door q (outcome true v q).door
unfolding outcome o.offer a.answer r.receive r.resend r.result r.close k.store k.forget k.count
moves v (offer b aware mandatory list resume nonce s) h =
    unless_law (λ x. Move v.door (offer b aware mandatory list resume nonce s) x.door) _ v.door s _ (refused_move v _ s _) (λ x. offered_move v.door _ _ mandatory _)
moves v (answer area aware mandatory list nonce s) h =
    unless_law (λ x. Move v.door (answer area aware mandatory list nonce s) x.door) _ v.door s _ (refused_move v _ s _) (λ x. answer_move v _ aware mandatory _ nonce s _)
moves v (receive syn ack area) h =
    unless_law (λ x. Move v.door (receive syn ack area) x.door) _ v.door [] _ (refused_move v _ [] _)
    (λ x. receive_move (phase_of v.door.phase) syn ack v.door area h x.0 refl)
moves v (resend s) h = unless_law (λ x. Move v.door (resend s) x.door) _ v.door s _ (refused_move v _ s _) (λ x. same refl)
moves v (result s) h = unless_law (λ x. Move v.door (result s) x.door) _ v.door s _ (refused_move v _ s _) (λ x. same refl)
moves v close h = idle_move v.door close
moves v (store t role identifier secret) h =
    unless_law (λ x. Move v.door (store t role identifier secret) x.door) _ v.door [] _ (refused_move v _ [] _) (λ x. same refl)
moves v (forget t identifier) h = unless_law (λ x. Move v.door (forget t identifier) x.door) _ v.door [] _ (refused_move v _ [] _) (λ x. same refl)
moves v count h = same refl

-- a door after the calls cs: what it says resumed it has in hand, and if it is open, one receive opened it
record Opening (d : ℕ) (cs : List Call) (e : Door) : Type 0 where
  before : List Call
  syn : Bool
  ack : Bool
  area : List ℕ
  was : is_open_now (door_after d before) ≡ false
  still : Since (λ (x : Door). x ≡ e) d cs before (receive syn ack area)
  dropped : Dropped e
  confirmed : Confirmed (door_after d before) syn ack area

record Kept (d : ℕ) (cs : List Call) (e : Door) : Type 0 where
  backed : Backed e
  opening : is_open_now e ≡ true → Opening d cs e

module _ (d : ℕ) (h : d < doors_n) where
  idle_kept : (cs : List Call) → Kept d cs idle_view.door
  unfolding idle_view idle_door phase_of
  idle_kept cs = record { backed = not_backed idle_door refl; opening = λ e. absurd (true≢false (sym e)) }

  -- a call that changes nothing of the door
  same_kept : (cs : List Call) (c : Call) (e : Door) → door_after d (cs ++ c ∷ []) ≡ e → Kept d cs e → Kept d (cs ++ c ∷ []) e
  same_kept cs c e q s = record { backed = s.backed; opening = λ f. more (s.opening f) }
    where
      more : Opening d cs e → Opening d (cs ++ c ∷ []) e
      more x =
          record {
            before = x.before;
            syn = x.syn;
            ack = x.ack;
            area = x.area;
            was = x.was;
            still = since_more (λ (y : Door). y ≡ e) d cs x.before (receive x.syn x.ack x.area) c q x.still;
            dropped = x.dropped;
            confirmed = x.confirmed;
          }

  -- each call keeps it
  moved : (cs : List Call) (a : Ask) (e : Door) → door_after d (cs ++ on d a ∷ []) ≡ e → Kept d cs (door_after d cs) → Move (door_after d cs) a e → Kept d (cs ++ on d a ∷ []) e
  moved cs a e q s (same p) = subst (Kept d (cs ++ on d a ∷ [])) (sym p) (same_kept cs (on d a) (door_after d cs) (q ∙ p) s)
  moved cs a e q s (shut f b) = record { backed = b; opening = λ t. absurd (true≢false (sym t ∙ f)) }
  moved cs a e q s (opening_by syn ack area is f b x c) =
      record {
        backed = b;
        opening =
            λ t.
            record {
              before = cs;
              syn = syn;
              ack = ack;
              area = area;
              was = f;
              still = subst (λ (y : Ask). Since (λ (z : Door). z ≡ e) d (cs ++ on d a ∷ []) cs y) is (since_now (λ (z : Door). z ≡ e) d cs a (sym (ap (λ (u : LinkUnit). (view u d).door) (after_one empty_unit cs (on d a))) ∙ q));
              dropped = x;
              confirmed = c;
            };
      }

  kept : (cs : List Call) → Kept d cs (door_after d cs)
  unfolding door.after
  kept =
      along d h (λ (cs : List Call) (v : Seen). Kept d cs v.door) (idle_kept []) (λ cs. idle_kept (cs ++ erase ∷ []))
      (λ cs c e s. same_kept cs c (door_after d cs) (ap (λ (v : Seen). v.door) e) s)
      (λ cs a s. moved cs a (outcome true (seen_after d cs) a).door (own_is d h cs a) s (moves (seen_after d cs) a s.backed))

-- the way that a result names
resumed_true : (b : Bool) → way_if b ≡ resumed → b ≡ true
resumed_true true e = refl
resumed_true false e = let z : ◌≡◌ {A = ℕ} 0 1 = cc in absurd (omega arith)

fresh_false : (b : Bool) → way_if b ≡ fresh → b ≡ false
fresh_false false e = refl
fresh_false true e = let z : ◌≡◌ {A = ℕ} 0 1 = cc in absurd (omega arith)

module _ (d : ℕ) (h : d < doors_n) (cs : List Call) (lent : List ℕ) (role byte n : ℕ) (secret : List ℕ) where
  opened_with : (hand : Option SessionRecord) → is_open_now (door_after d cs) ≡ true → in_hand (door_after d cs).hand ≡ hand → OpenedWith d cs hand
  opened_with hand t i =
      let x = (kept d h cs).opening t in
      let q : Ask = receive x.syn x.ack x.area in
      let e = since_first (λ (y : Door). y ≡ door_after d cs) d cs x.before q x.still in
      record {
        before = x.before;
        syn = x.syn;
        ack = x.ack;
        area = x.area;
        was = x.was;
        is = ap (λ (y : Door). is_open_now y) e ∙ t;
        in_hand_lem = ap (λ (y : Door). in_hand y.hand) e ∙ i;
        confirmed = x.confirmed;
        still = x.still;
      }

  names : (way : Way) → (told_after d cs (result lent)).reply ≡ encrypted role byte way n secret → Names (door_after d cs) lent role byte way n secret
  unfolding outcome
  names way e = result_names (door_after d cs) lent role byte way n secret (sym (ap (λ (t : Told). t.reply) (told_is d h cs (result lent))) ∙ e)

  -- every result that says resumed belongs to a connection that opened with that record in hand
  pub resumed_was_opened : (told_after d cs (result lent)).reply ≡ encrypted role byte resumed n secret → Resumed d cs secret
  resumed_was_opened e =
      let x = names resumed e in
      let t = resumed_true (door_after d cs).resumed x.way_is in
      let y = (kept d h cs).backed t in
      record { with_record = y.0; opening = opened_with (some y.0) x.in_open y.1; hand_is = y.1; secret_is = sym x.secret_is ∙ resumed_secret (door_after d cs) y.0 t y.1 }

  -- and one that says fresh to a connection that opened with none
  pub fresh_was_opened : (told_after d cs (result lent)).reply ≡ encrypted role byte fresh n secret → Fresh d cs secret
  fresh_was_opened e =
      let x = names fresh e in
      let f = fresh_false (door_after d cs).resumed x.way_is in
      let i = ((kept d h cs).opening x.in_open).dropped f in
      record { opening = opened_with none x.in_open i; hand_is = i; secret_is = sym x.secret_is ∙ fresh_secret (door_after d cs) f }

-- it is one of the openings that `opens` counts
moments_append : (d : ℕ) (u : LinkUnit) (xs ys : List Call) → moments u d (xs ++ ys) ≡ moments u d xs ++ moments (after u xs) d ys
unfolding moments after
moments_append d u [] ys = refl
moments_append d u (c ∷ xs) ys = ap (λ (l : List Moment). moment u d c ++ l) (moments_append d (step u c).unit xs ys) ∙ sym (append_assoc (moment u d c) _ _)

opens_append : (p : SessionRecord → Bool) (xs ys : List Moment) → opens p (xs ++ ys) ≡ opens p xs + opens p ys
unfolding opens
opens_append p [] ys = omega arith
opens_append p (m ∷ xs) ys = omega (arith, opens_append p xs ys)

module _ (p : SessionRecord → Bool) (d : ℕ) (cs : List Call) (x : SessionRecord) (w : OpenedWith d cs (some x)) where
  abbrev its : Ask
  its = receive w.syn w.ack w.area

  this_opens : opens_by p (door_after d w.before) (door_then d w.before its) ≡ one (p x)
  this_opens = rw (w.was, w.is, w.in_hand_lem)

  from_here : one (p x) ≤ opens p (moments (after empty_unit w.before) d (on d its ∷ w.still.later))
  unfolding moments moment opens
  from_here =
      let e : eqb d d ≡ true = eq-eqb d d refl in
      rw e (omega (arith, this_opens))

  pub opening_counts : one (p x) ≤ opens p (moments empty_unit d cs)
  opening_counts =
      let e = moments_append d empty_unit w.before (on d its ∷ w.still.later) in
      let f = opens_append p (moments empty_unit d w.before) (moments (after empty_unit w.before) d (on d its ∷ w.still.later)) in
      let g : opens p (moments empty_unit d cs) ≡ opens p (moments empty_unit d w.before) + opens p (moments (after empty_unit w.before) d (on d its ∷ w.still.later)) =
      ap (λ (l : List Call). opens p (moments empty_unit d l)) w.still.are ∙ (ap (opens p) e ∙ f) in
      omega (arith, from_here)

-- so the identifier of a record that a connection opened with was stored at this door
pub opened_was_stored : (d : ℕ) → d < doors_n → (cs : List Call) (x : SessionRecord) → OpenedWith d cs (some x)
    → 1 ≤ stores (λ (s : SessionRecord). same_bytes x.identifier s.identifier) (moments empty_unit d cs)
opened_was_stored d h cs x w =
    let p : SessionRecord → Bool = λ s. same_bytes x.identifier s.identifier in
    let e : one (p x) ≡ 1 = ap one (sym (same_yes x.identifier)) in
    omega (arith, opening_counts p d cs x w, no_more_than_stored d h cs x.identifier)
