-- What a door stores is what its connection says: true of a door of the empty unit, and kept by each call.
use Rattle.std.specs.Prelude.{◌≡◌, Bool, cond, ◌&&◌, ◌||◌, ℕ, zero, suc, ◌≤◌, ◌<◌, ltb, length, take}
use Rattle.std.proofs.Math.Path.{refl, sym, ap, ap₂, subst}
use Rattle.std.proofs.Common.{◌∙◌, true≢false, arith}
use Rattle.std.proofs.Math.Bool.{true, false}
use Rattle.std.proofs.Math.Option.{Option, none, some}
use mathlib.Core.List.{List, [], ◌∷◌, ◌++◌}
use borrow.Author.Tests.{ltb-false, eqb-true, not-false}
use Rattle.std.proofs.Math.Dec.{eqb, leb}
use Rattle.eno.specs.declared.Cause.{Cause}
use Rattle.wire.specs.Bytes.{pasted, part}
use Rattle.wire.specs.ByteLaws.{part_pasted}
use Rattle.eno.specs.Area.{syn_option}
use Rattle.eno.specs.Tep.{is_known}
use Rattle.eno.specs.Session.{in_hand}
use Rattle.eno.specs.Judge as judged
use Rattle.eno.specs.Judge.{Way, resumed, way_if, is_resumed, of_a, of_b, first_of, Judged, encrypt, too_long, judge}
use Rattle.eno.specs.Option.{option_with, offered}
use Rattle.eno.specs.Laws.Walk.{Every}
use Rattle.eno.proofs.Laws.Asked.{and_true}
use Rattle.eno.specs.declared.SessionRecord.{SessionRecord}
use Rattle.door.specs.Door.{Phase, idle, offering, crossed, answering, opened, unencrypted, phase_of, own_option, peer_option, transcript_of, empty_hand, hand_of, idle_door, Seen}
use Rattle.door.specs.Record.{record_at}
use Rattle.door.specs.Outcome.{written, plain, Outcome, keep, add, remove, unless}
use Rattle.door.specs.Offer as o
use Rattle.door.specs.Offer.{offered_door, offered_at, terms_fit}
use Rattle.door.specs.Answer as a
use Rattle.door.specs.Answer.{Choice, choose_tep, chosen_or, reason_or, answer_reason, plain_for, with, plain_door, answered_door, answer_with, answer_length}
use Rattle.door.specs.Receive as r
use Rattle.door.specs.Receive.{comparing, presence, turn, open_door, judged_door, after_judging, plain_or, second_reason, presence_reason, received}
use Rattle.door.specs.Records as k
use Rattle.door.specs.Records.{is_record}
use Rattle.door.specs.Verdict.{Stored, answer_option, answer_door, phase_after}
use Rattle.door.proofs.Verdict.{answer_agrees, offered_own, answered_own, answered_peer, judged_peer, open_peer, open_stored, option_at_most, after_syn, receive_judges, resumed_open_keeps, offer_at_most, offer_alone}
use Rattle.door.specs.Calls.{Ask, offer, answer, receive, resend, result, close, store, forget, count, outcome, cut, effected}
use Rattle.door.specs.Calls as door
use Rattle.door.specs.declared.Door.{Door}
use Rattle.unit.specs.Numbers.{doors_n}
use Rattle.unit.specs.Run.{Call, on, erase, Told, after}
use Rattle.unit.proofs.Laws.Calls.{unless_law}
use Rattle.unit.specs.Isolation.{idle_view}
use Rattle.unit.specs.History.{seen_after, door_after, Since}
use Rattle.unit.proofs.History.{since_now, since_more, told_is, then_door, own_is, along}
use Rattle.unit.specs.Connections.{Offered, InPlain, is_decided, Decided, Wrote, Terms, verdict, JudgedBy, of_offer_lem, of_answer_lem, PlainFor, by_judge, by_answer, by_second, by_presence}
use Rattle.unit.specs.Stories.{Holding, is_waiting, Story, resting, sent, waiting, open_as, plain_as}

-- a record that is held has an identifier of 18 bytes
abbrev Whole : SessionRecord → Type 0
Whole x = length x.identifier ≡ 18

AllWhole : List SessionRecord → Type 0
AllWhole l = Every Whole l

whole_cut : (j : ℕ) (l : List SessionRecord) → Every Whole l → Every Whole (cut j l)
unfolding cut
whole_cut j [] w = tt
whole_cut zero (x ∷ l) w = w.1
whole_cut (suc j) (x ∷ l) w = (w.0, whole_cut j l w.1)

whole_add : (x : SessionRecord) (l : List SessionRecord) → Whole x → Every Whole l → Every Whole (l ++ x ∷ [])
whole_add x [] h w = (h, tt)
whole_add x (y ∷ l) h w = (w.0, whole_add x l h w.1)

module _ (v : Seen) (w : AllWhole v.held) where
  WholeAfter : Outcome → Type 0
  WholeAfter x = AllWhole (effected x.effect v.held)

  whole_kept : (x : Outcome) → x.effect ≡ keep → WholeAfter x
  unfolding WholeAfter effected
  whole_kept x e = rw e w

  whole_less : (x : Outcome) (j : ℕ) → x.effect ≡ remove j → WholeAfter x
  unfolding WholeAfter effected AllWhole
  whole_less x j e = rw e (whole_cut j v.held w)

  whole_taken : (x : Outcome) (j : ℕ) → x.effect ≡ cond (ltb j (length v.held)) (remove j) keep → WholeAfter x
  whole_taken x j e = go (ltb j (length v.held)) e
    where
      go : (b : Bool) → x.effect ≡ cond b (remove j) keep → WholeAfter x
      go true q = whole_less x j q
      go false q = whole_kept x q

  whole_more : (x : Outcome) (y : SessionRecord) → x.effect ≡ add y → Whole y → WholeAfter x
  unfolding WholeAfter effected AllWhole
  whole_more x y e h = rw e (whole_add y v.held h w)

  whole_refused : (s : List ℕ) (x : Outcome) (n : ℕ) → WholeAfter (unless (some n) v.door s x)
  unfolding unless
  whole_refused s x n = whole_kept _ refl

  whole_answer : (aware mandatory : Bool) (p nonce s : List ℕ) (c : a.Answering) → WholeAfter (answer_with v aware mandatory p nonce s c)
  unfolding answer_with
  whole_answer aware mandatory p nonce s (plain_for n) = whole_kept _ refl
  whole_answer aware mandatory p nonce s (with c) = whole_taken _ c.at refl

  record_whole : (t role : ℕ) (identifier secret : List ℕ) → is_record t role identifier secret ≡ true → length identifier ≡ 18
  unfolding is_record
  record_whole t role identifier secret e =
      eqb-true _ _ (and_true (is_known t && leb role 1) (eqb (length identifier) 18) (and_true (is_known t && leb role 1 && eqb (length identifier) 18) (eqb (length secret) 32) e).0).1

  whole_outcome : (q : Ask) → WholeAfter (outcome true v q)
  unfolding outcome o.offer a.answer r.receive r.resend r.result r.close k.store k.forget k.count
  whole_outcome (offer b aware mandatory list resume nonce s) =
      unless_law WholeAfter _ v.door s _ (whole_refused s _) (λ x. whole_taken _ (offered_at resume list v.held) refl)
  whole_outcome (answer area aware mandatory list nonce s) =
      unless_law WholeAfter _ v.door s _ (whole_refused s _) (λ x. whole_answer aware mandatory _ nonce s _)
  whole_outcome (receive syn ack area) = unless_law WholeAfter _ v.door [] _ (whole_refused [] _) (λ x. whole_kept _ refl)
  whole_outcome (resend s) = unless_law WholeAfter _ v.door s _ (whole_refused s _) (λ x. whole_kept _ refl)
  whole_outcome (result s) = unless_law WholeAfter _ v.door s _ (whole_refused s _) (λ x. whole_kept _ refl)
  whole_outcome close = whole_kept _ refl
  whole_outcome (store t role identifier secret) =
      unless_law WholeAfter _ v.door [] _ (whole_refused [] _)
      (λ x. whole_more _ (record { tep = t; role = role; identifier = identifier; secret = secret }) refl (record_whole t role identifier secret (not-false _ x.0)))
  whole_outcome (forget t identifier) = unless_law WholeAfter _ v.door [] _ (whole_refused [] _) (λ x. whole_less _ _ refl)
  whole_outcome count = whole_kept _ refl

-- phases of the doors that calls leave
pub offered_phase : (w : List ℕ) (mandatory : Bool) (hand : Option SessionRecord) → phase_of (offered_door w mandatory hand).phase ≡ offering
unfolding offered_door phase_of
offered_phase w mandatory hand = refl

answered_phase : (w p : List ℕ) (mandatory : Bool) (t : ℕ) (hand : Option SessionRecord) → phase_of (answered_door w p mandatory t hand).phase ≡ answering
unfolding answered_door phase_of
answered_phase w p mandatory t hand = refl

judged_phase : (e : Door) (p : List ℕ) (role byte : ℕ) (way : Way) → phase_of (judged_door e p role byte way).phase ≡ crossed
unfolding judged_door phase_of
judged_phase e p role byte way = refl

open_phase : (e : Door) → phase_of (open_door e).phase ≡ opened
unfolding open_door phase_of
open_phase e = refl

pub plain_phase : (n : Cause) → phase_of (plain_door n).phase ≡ unencrypted
unfolding plain_door phase_of
plain_phase n = refl

idle_phase : phase_of idle_door.phase ≡ idle
unfolding idle_door phase_of
idle_phase = refl

waiting_decided : (q : Phase) → is_waiting q ≡ true → is_decided q ≡ true
waiting_decided idle e = e
waiting_decided offering e = e
waiting_decided crossed e = refl
waiting_decided answering e = refl
waiting_decided opened e = refl
waiting_decided unencrypted e = refl

module _ (d : ℕ) where
  -- what was so stays so while the door is in the phase
  judged_more : (cs : List Call) (c : Call) (t : Terms) → Decided (door_after d (cs ++ c ∷ [])) → JudgedBy d cs t → JudgedBy d (cs ++ c ∷ []) t
  judged_more cs c t p (of_offer_lem xs ys b aware list resume nonce lent ack w s u) = of_offer_lem xs ys b aware list resume nonce lent ack w s (since_more Decided d cs ys (receive true ack t.area) c p u)
  judged_more cs c t p (of_answer_lem xs aware list nonce lent w u) =
      of_answer_lem xs aware list nonce lent w (since_more Decided d cs xs (answer t.area aware t.mandatory list nonce lent) c p u)

  plain_more : (cs : List Call) (c : Call) (n : Cause) → InPlain (door_after d (cs ++ c ∷ [])) → PlainFor d cs n → PlainFor d (cs ++ c ∷ []) n
  plain_more cs c n p (by_judge t j e) = by_judge t (judged_more cs c t (ap is_decided p) j) e
  plain_more cs c n p (by_answer xs area aware mandatory list nonce lent e w u) =
      by_answer xs area aware mandatory list nonce lent e w (since_more InPlain d cs xs (answer area aware mandatory list nonce lent) c p u)
  plain_more cs c n p (by_second xs t j e ack area then q s u) = by_second xs t j e ack area then q s (since_more InPlain d cs xs (receive true ack area) c p u)
  plain_more cs c n p (by_presence xs t j ack area q s u) = by_presence xs t j ack area q s (since_more InPlain d cs xs (receive false ack area) c p u)

  holding_more : (cs : List Call) (c : Call) (e : Door) (t : Terms) → Decided (door_after d (cs ++ c ∷ [])) → Holding d cs e t → Holding d (cs ++ c ∷ []) e t
  holding_more cs c e t p x =
      record {
        by = judged_more cs c t p x.by;
        role = x.role;
        byte = x.byte;
        way = x.way;
        transcript = x.transcript;
        verdict_is = x.verdict_is;
        stored = x.stored;
        peer_is = x.peer_is;
      }

  same_story : (cs : List Call) (c : Call) (e : Door) → door_after d (cs ++ c ∷ []) ≡ e → Story d cs e → Story d (cs ++ c ∷ []) e
  same_story cs c e q (resting p) = resting p
  same_story cs c e q (sent xs b aware mandatory list resume nonce lent option hand w s x l f) =
      sent xs b aware mandatory list resume nonce lent option hand w
      (since_more Offered d cs xs (offer b aware mandatory list resume nonce lent) c (ap (λ (y : Door). phase_of y.phase) (q ∙ x) ∙ offered_phase option mandatory hand) s) x l f
  same_story cs c e q (waiting t x p i) =
      waiting t (holding_more cs c e t (ap (λ (y : Door). is_decided (phase_of y.phase)) q ∙ waiting_decided (phase_of e.phase) p) x) p i
  same_story cs c e q (open_as t x p i) = open_as t (holding_more cs c e t (ap (λ (y : Door). is_decided (phase_of y.phase)) q ∙ ap is_decided p) x) p i
  same_story cs c e q (plain_as n x p) = plain_as n (plain_more cs c n (ap (λ (y : Door). phase_of y.phase) (q ∙ p) ∙ plain_phase n) x) p

-- the judge encrypts: neither area was too long
first_passed : (b : Bool) (n : ℕ) (l : List (Bool × Judged)) (last : Judged) (role byte : ℕ) (way : Way) (t : List ℕ) → first_of ((b, judged.refuse n) ∷ l) last ≡ encrypt role byte way t → b ≡ false
unfolding first_of
first_passed true n l last role byte way t e = let z : ◌≡◌ {A = ℕ} 0 1 = cc in absurd (omega arith)
first_passed false n l last role byte way t e = refl

or_left : (b c : Bool) → b || c ≡ false → b ≡ false
or_left true c e = e
or_left false c e = refl

judged_short : (mandatory : Bool) (hand : Option SessionRecord) (own area : List ℕ) (role byte : ℕ) (way : Way) (t : List ℕ) → judge mandatory hand own area ≡ encrypt role byte way t → length own ≤ 40
unfolding judge
judged_short mandatory hand own area role byte way t e = ltb-false _ _ (or_left (too_long own) (too_long area) (first_passed (too_long own || too_long area) 2 _ _ role byte way t e))

hand_back : (x : Option SessionRecord) → in_hand (hand_of x) ≡ x
unfolding in_hand hand_of empty_hand
hand_back none = refl
hand_back (some s) = refl

pasted_front : (s w : List ℕ) → length w ≤ length s → take (length w) (pasted s 0 w) ≡ w
unfolding part
pasted_front s w h = part_pasted s 0 w (omega arith)

offered_hand : (w : List ℕ) (mandatory : Bool) (hand : Option SessionRecord) → in_hand (offered_door w mandatory hand).hand ≡ hand
unfolding offered_door
offered_hand w mandatory hand = hand_back hand

answered_hand : (w p : List ℕ) (mandatory : Bool) (t : ℕ) (hand : Option SessionRecord) → in_hand (answered_door w p mandatory t hand).hand ≡ hand
unfolding answered_door
answered_hand w p mandatory t hand = hand_back hand

answered_role : (w p : List ℕ) (mandatory : Bool) (t : ℕ) (hand : Option SessionRecord) → (answered_door w p mandatory t hand).role ≡ 1
unfolding answered_door
answered_role w p mandatory t hand = refl

-- a door that opens keeps its record if it says resumed
open_hand_lem : (e : Door) (hand : Option SessionRecord) → in_hand e.hand ≡ hand → (open_door e).resumed ≡ true → in_hand (open_door e).hand ≡ hand
unfolding open_door
open_hand_lem e hand i t = ap in_hand (resumed_open_keeps e t) ∙ i

way_back : (b : Bool) → b ≡ is_resumed (way_if b)
way_back true = refl
way_back false = refl

answered_stored : (w p : List ℕ) (mandatory : Bool) (t : ℕ) (hand : Option SessionRecord) → length w ≤ 40 → length p ≤ 40
    → Stored (answered_door w p mandatory t hand) 1 (answered_door w p mandatory t hand).tep (way_if (answered_door w p mandatory t hand).resumed) (p ++ w)
unfolding transcript_of of_a of_b
answered_stored w p mandatory t hand short q =
    record {
      role_is = role_one;
      byte_is = refl;
      way_is = way_back _;
      transcript_is = both;
    }
  where
    role_one : (answered_door w p mandatory t hand).role ≡ 1
    role_one = answered_role w p mandatory t hand

    both : transcript_of (answered_door w p mandatory t hand) ≡ p ++ w
    both =
        ap (λ k. of_a (eqb k 1) (own_option (answered_door w p mandatory t hand)) (peer_option (answered_door w p mandatory t hand)) ++ of_b (eqb k 1) (own_option (answered_door w p mandatory t hand)) (peer_option (answered_door w p mandatory t hand))) role_one
        ∙ ap₂ (λ (x y : List ℕ). x ++ y) (answered_peer w p mandatory t hand short q) (answered_own w p mandatory t hand short)

-- what an answer comes to, taken apart
reason_none : (m : Option Cause) (c : Option Choice) (x : Choice) → reason_or m (chosen_or c) ≡ with x → (m ≡ none) × (c ≡ some x)
reason_none (some n) c x e = let z : ◌≡◌ {A = ℕ} 0 1 = cc in absurd (omega arith)
reason_none none none x e = let z : ◌≡◌ {A = ℕ} 0 1 = cc in absurd (omega arith)
reason_none none (some y) x e = let z : y ≡ x = cc in (refl, ap some z)

-- one call of the door's own
module _ (d : ℕ) (h : d < doors_n) (cs : List Call) where
  abbrev seen : Seen
  seen = seen_after d cs

  abbrev now : Door
  now = door_after d cs

  wrote_by : (q : Ask) (x : Outcome) (option s : List ℕ) (hand : Option SessionRecord) → outcome true seen q ≡ x → x.reply ≡ written (length option) → x.buffer ≡ pasted s 0 option
      → length option ≤ length s → in_hand x.door.hand ≡ hand → Wrote d cs q option hand
  wrote_by q x option s hand e says buffer room i =
      record {
        says = ap (λ (t : Told). t.reply) (told_is d h cs q) ∙ (ap (λ (y : Outcome). y.reply) e ∙ says);
        bytes =
            ap (take (length option)) (ap (λ (t : Told). t.buffer) (told_is d h cs q) ∙ (ap (λ (y : Outcome). y.buffer) e ∙ buffer)) ∙ pasted_front s option room;
        hand_is = ap (λ (y : Door). in_hand y.hand) (then_door d h cs q ∙ ap (λ (y : Outcome). y.door) e) ∙ i;
      }

  since_by : (P : Door → Type 0) (q : Ask) (e : Door) → (outcome true seen q).door ≡ e → P e → Since P d (cs ++ on d q ∷ []) cs q
  since_by P q e x p = since_now P d cs q (subst P (sym (then_door d h cs q ∙ x)) p)

  module _ (story : Story d cs (door_after d cs)) (whole : AllWhole (seen_after d cs).held) where
    -- the goal of a call, for what it may come to
    Told-as : Ask → Outcome → Type 0
    Told-as q x = outcome true seen q ≡ x → Story d (cs ++ on d q ∷ []) x.door

    stays : (q : Ask) (x : Outcome) → x.door ≡ now → Told-as q x
    unfolding Told-as
    stays q x e p =
        let same : (outcome true seen q).door ≡ now = ap (λ (y : Outcome). y.door) p ∙ e in
        subst (Story d (cs ++ on d q ∷ [])) (sym e) (same_story d cs (on d q) now (own_is d h cs q ∙ same) story)

    refused_stays : (q : Ask) (s : List ℕ) (x : Outcome) (n : ℕ) → Told-as q (unless (some n) now s x)
    unfolding unless
    refused_stays q s x n = stays q _ refl

    -- an offer
    module _ (b : ℕ) (aware mandatory : Bool) (list : List ℕ) (resume : Bool) (nonce s : List ℕ) where
      abbrev offer_hand : Option SessionRecord
      offer_hand = record_at seen.held (offered_at resume list seen.held)

      abbrev offer_writes : List ℕ
      offer_writes = option_with (offered b aware list offer_hand nonce)

      abbrev offer_ask : Ask
      offer_ask = offer b aware mandatory list resume nonce s

      offer_story : (x : Outcome) → x.reply ≡ written (length offer_writes) → x.buffer ≡ pasted s 0 offer_writes → x.door ≡ offered_door offer_writes mandatory offer_hand
          → leb b 1 && terms_fit aware mandatory list nonce ≡ true → length offer_writes ≤ length s → Told-as offer_ask x
      unfolding Told-as
      offer_story x says buffer is fit room e =
          sent cs b aware mandatory list resume nonce s offer_writes offer_hand
          (wrote_by offer_ask x offer_writes s offer_hand e says buffer room (ap (λ (y : Door). in_hand y.hand) is ∙ offered_hand offer_writes mandatory offer_hand))
          (since_by Offered offer_ask (offered_door offer_writes mandatory offer_hand) (ap (λ (y : Outcome). y.door) e ∙ is) (offered_phase offer_writes mandatory offer_hand))
          is (offer_at_most b aware mandatory list resume nonce seen.held fit) (offer_alone b aware mandatory list resume nonce seen.held fit)

    -- an answer
    module _ (area : List ℕ) (aware mandatory : Bool) (list nonce s : List ℕ) where
      abbrev answer_ask : Ask
      answer_ask = answer area aware mandatory list nonce s

      answer_plain : (n : Cause) → a.answering seen mandatory area list ≡ plain_for n → Told-as answer_ask (answer_with seen aware mandatory (syn_option area) nonce s (plain_for n))
      unfolding Told-as answer_with
      answer_plain n c e =
          plain_as n
          (by_answer cs area aware mandatory list nonce s c (ap (λ (t : Told). t.reply) (told_is d h cs answer_ask) ∙ ap (λ (y : Outcome). y.reply) e)
          (since_by InPlain answer_ask (plain_door n) (ap (λ (y : Outcome). y.door) e) (plain_phase n))) refl

      module _ (c : Choice) (is : a.answering seen mandatory area list ≡ with c) (long : too_long area ≡ false) (fit : terms_fit aware mandatory list nonce ≡ true) where
        abbrev answer_hand : Option SessionRecord
        answer_hand = record_at seen.held c.at

        abbrev answer_writes : List ℕ
        answer_writes = answer_option aware nonce seen.held c

        abbrev answer_terms : Terms
        answer_terms = record { mandatory = mandatory; hand = answer_hand; own = answer_writes; area = area }

        abbrev leaves : Door
        leaves = answer_door aware mandatory area nonce seen.held c

        choice : (answer_reason mandatory area ≡ none) × (choose_tep (syn_option area) list seen.held ≡ some c)
        unfolding a.answering
        choice = reason_none (answer_reason mandatory area) (choose_tep (syn_option area) list seen.held) c is

        agrees : verdict answer_terms ≡ encrypt 1 leaves.tep (way_if leaves.resumed) (syn_option area ++ answer_writes)
        unfolding AllWhole
        agrees = answer_agrees aware mandatory area list nonce seen.held c long fit choice.0 choice.1 whole

        short : length answer_writes ≤ 40
        short = judged_short mandatory answer_hand answer_writes area 1 leaves.tep (way_if leaves.resumed) (syn_option area ++ answer_writes) agrees

        answer_with_lem : length answer_writes ≤ length s → Told-as answer_ask (answer_with seen aware mandatory (syn_option area) nonce s (with c))
        unfolding Told-as answer_with
        answer_with_lem room e =
            waiting answer_terms
            (record {
              by =
                  of_answer_lem cs aware list nonce s
                  (wrote_by answer_ask _ answer_writes s answer_hand e refl refl room (answered_hand answer_writes (syn_option area) mandatory c.tep answer_hand))
                  (since_by Decided answer_ask leaves (ap (λ (y : Outcome). y.door) e) (ap is_decided (answered_phase answer_writes (syn_option area) mandatory c.tep answer_hand)));
              role = 1;
              byte = leaves.tep;
              way = way_if leaves.resumed;
              transcript = syn_option area ++ answer_writes;
              verdict_is = agrees;
              stored = answered_stored answer_writes (syn_option area) mandatory c.tep answer_hand short (option_at_most area);
              peer_is = answered_peer answer_writes (syn_option area) mandatory c.tep answer_hand short (option_at_most area);
            })
            (ap is_waiting (answered_phase answer_writes (syn_option area) mandatory c.tep answer_hand))
            (answered_hand answer_writes (syn_option area) mandatory c.tep answer_hand)

      answer_story : (c : a.Answering) → a.answering seen mandatory area list ≡ c → too_long area ≡ false → terms_fit aware mandatory list nonce ≡ true
          → answer_length seen aware nonce c ≤ length s → Told-as answer_ask (answer_with seen aware mandatory (syn_option area) nonce s c)
      unfolding answer_length
      answer_story (plain_for n) e long fit room = answer_plain n e
      answer_story (with c) e long fit room = answer_with_lem c e long fit room

    -- a receive
    Came : Ask → Door → Type 0
    Came q e = (outcome true seen q).door ≡ e → Story d (cs ++ on d q ∷ []) e

    same_came : (q : Ask) → Came q now
    unfolding Came
    same_came q e = same_story d cs (on d q) now (own_is d h cs q ∙ e) story

    -- the SYN that is judged
    module _ (ack : Bool) (area : List ℕ) (fits : too_long area ≡ false) where
      abbrev syn_ask : Ask
      syn_ask = receive true ack area

      module _ (xs : List Call) (b : ℕ) (aware mandatory : Bool) (list : List ℕ) (resume : Bool) (nonce lent option : List ℕ) (hand : Option SessionRecord)
          (w : Wrote d xs (offer b aware mandatory list resume nonce lent) option hand) (since : Since Offered d cs xs (offer b aware mandatory list resume nonce lent))
          (is : now ≡ offered_door option mandatory hand) (short : length option ≤ 40) (alone : syn_option option ≡ option) where
        abbrev syn_terms : Terms
        syn_terms = record { mandatory = mandatory; hand = hand; own = option; area = area }

        abbrev as_stored : Judged
        as_stored = judge now.mandatory (in_hand now.hand) (own_option now) area

        phase_is : phase_of now.phase ≡ offering
        phase_is = ap (λ (y : Door). phase_of y.phase) is ∙ offered_phase option mandatory hand

        own_is_it : own_option now ≡ option
        own_is_it = ap own_option is ∙ offered_own option [] mandatory 0 hand short

        hand_is_it : in_hand now.hand ≡ hand
        hand_is_it = ap (λ (y : Door). in_hand y.hand) is ∙ offered_hand option mandatory hand

        -- what the door stores is what the offer sent
        same_terms : verdict syn_terms ≡ as_stored
        unfolding offered_door
        same_terms = sym (ap (λ (y : Door). judge y.mandatory (in_hand y.hand) (own_option y) area) is ∙ stored_terms)
          where
            stored_terms : judge (offered_door option mandatory hand).mandatory (in_hand (offered_door option mandatory hand).hand) (own_option (offered_door option mandatory hand)) area
                ≡ judge mandatory hand option area
            stored_terms = ap₂ (λ (m : Option SessionRecord) (p : List ℕ). judge mandatory m p area) (offered_hand option mandatory hand) (offered_own option [] mandatory 0 hand short)

        by_this : (e : Door) → (outcome true seen syn_ask).door ≡ e → Decided e → JudgedBy d (cs ++ on d syn_ask ∷ []) syn_terms
        by_this e x p = of_offer_lem xs cs b aware list resume nonce lent ack w since (since_by Decided syn_ask e x p)

        judged_plain : (n : Cause) → as_stored ≡ judged.plain n → Came syn_ask (plain_door n)
        unfolding Came
        judged_plain n j x = plain_as n (by_judge syn_terms (by_this (plain_door n) x (ap is_decided (plain_phase n))) (same_terms ∙ j)) refl

        module _ (role byte : ℕ) (way : Way) (t : List ℕ) (j : as_stored ≡ encrypt role byte way t) where
          abbrev crossed_door : Door
          crossed_door = judged_door now (syn_option area) role byte way

          syn_stored : (e : Door) → after_judging now (phase_after ack) (syn_option area) (encrypt role byte way t) ≡ e → Stored e role byte way t
          syn_stored e x =
              subst (λ (y : Door). Stored y role byte way t) (after_syn now ack area phase_is fits ∙ (ap (after_judging now (phase_after ack) (syn_option area)) j ∙ x))
              (receive_judges now ack area phase_is fits role byte way t j (ap syn_option own_is_it ∙ (alone ∙ sym own_is_it)))

          syn_holding : (e : Door) → (outcome true seen syn_ask).door ≡ e → after_judging now (phase_after ack) (syn_option area) (encrypt role byte way t) ≡ e → Decided e
              → peer_option e ≡ syn_option area → Holding d (cs ++ on d syn_ask ∷ []) e syn_terms
          syn_holding e x y p q =
              record { by = by_this e x p; role = role; byte = byte; way = way; transcript = t; verdict_is = same_terms ∙ j; stored = syn_stored e y; peer_is = q }

          crossed_peer : peer_option crossed_door ≡ syn_option area
          crossed_peer = judged_peer now (syn_option area) role byte way (option_at_most area)

          crossed_hand : in_hand crossed_door.hand ≡ hand
          unfolding judged_door
          crossed_hand = hand_is_it

          -- a SYN alone: Crossed
          judged_crossed : ack ≡ false → Came syn_ask crossed_door
          unfolding Came
          judged_crossed f x =
              let p = judged_phase now (syn_option area) role byte way in
              let y : after_judging now (phase_after ack) (syn_option area) (encrypt role byte way t) ≡ crossed_door =
              ap (λ (c : Bool). after_judging now (phase_after c) (syn_option area) (encrypt role byte way t)) f in
              waiting syn_terms (syn_holding crossed_door x y (ap is_decided p) crossed_peer) (ap is_waiting p) crossed_hand

          -- a SYN with ACK: Open
          judged_open : ack ≡ true → Came syn_ask (open_door crossed_door)
          unfolding Came
          judged_open f x =
              let p = open_phase crossed_door in
              let y : after_judging now (phase_after ack) (syn_option area) (encrypt role byte way t) ≡ open_door crossed_door =
              ap (λ (c : Bool). after_judging now (phase_after c) (syn_option area) (encrypt role byte way t)) f in
              open_as syn_terms (syn_holding (open_door crossed_door) x y (ap is_decided p) (open_peer crossed_door ∙ crossed_peer)) p (open_hand_lem crossed_door hand crossed_hand)

        judged_story : (c : Bool) → ack ≡ c → (j : Judged) → as_stored ≡ j → Came syn_ask (after_judging now (phase_after c) (syn_option area) j)
        judged_story c f (judged.refuse n) j = same_came syn_ask
        judged_story c f (judged.plain n) j = judged_plain n j
        judged_story true f (encrypt role byte way t) j = judged_open role byte way t j f
        judged_story false f (encrypt role byte way t) j = judged_crossed role byte way t j f

    -- the segments after it
    module _ (t : Terms) (x : Holding d cs (door_after d cs) t) (wait : is_waiting (phase_of (door_after d cs).phase) ≡ true) (in_hand_lem : in_hand (door_after d cs).hand ≡ t.hand) where
      opens_as : (q : Ask) → Came q (open_door now)
      unfolding Came
      opens_as q e =
          open_as t
          (record {
            by = judged_more d cs (on d q) t (ap (λ (y : Door). is_decided (phase_of y.phase)) (own_is d h cs q ∙ e) ∙ ap is_decided (open_phase now)) x.by;
            role = x.role;
            byte = x.byte;
            way = x.way;
            transcript = x.transcript;
            verdict_is = x.verdict_is;
            stored = open_stored now x.role x.byte x.way x.transcript x.stored;
            peer_is = open_peer now ∙ x.peer_is;
          })
          (open_phase now) (open_hand_lem now t.hand in_hand_lem)

      second_story : (ack : Bool) (area : List ℕ) (then : Phase) → turn (phase_of now.phase) true ack ≡ comparing then → (e : Door) → Came (receive true ack area) e
          → (m : Option Cause) → second_reason now area ≡ m → Came (receive true ack area) (plain_or m e)
      unfolding Came
      second_story ack area then q e f none s = f
      second_story ack area then q e f (some n) s =
          λ y. plain_as n (by_second cs t x.by x.peer_is ack area then q s (since_by InPlain (receive true ack area) (plain_door n) y (plain_phase n))) refl

      presence_story : (ack : Bool) (area : List ℕ) → turn (phase_of now.phase) false ack ≡ presence → (e : Door) → Came (receive false ack area) e
          → (m : Option Cause) → presence_reason area ≡ m → Came (receive false ack area) (plain_or m e)
      unfolding Came
      presence_story ack area q e f none s = f
      presence_story ack area q e f (some n) s =
          λ y. plain_as n (by_presence cs t x.by ack area q s (since_by InPlain (receive false ack area) (plain_door n) y (plain_phase n))) refl

      later_story : (q : Phase) → phase_of now.phase ≡ q → is_waiting q ≡ true → (syn ack : Bool) (area : List ℕ) → Came (receive syn ack area) (received now (turn q syn ack) area)
      unfolding turn received
      later_story idle p i syn ack area = absurd (true≢false (sym i))
      later_story offering p i syn ack area = absurd (true≢false (sym i))
      later_story crossed p i true true area = second_story true area opened (ap (λ k. turn k true true) p) (open_door now) (opens_as (receive true true area)) (second_reason now area) refl
      later_story crossed p i true false area = same_came (receive true false area)
      later_story crossed p i false true area = presence_story true area (ap (λ k. turn k false true) p) (open_door now) (opens_as (receive false true area)) (presence_reason area) refl
      later_story crossed p i false false area = same_came (receive false false area)
      later_story answering p i true true area = same_came (receive true true area)
      later_story answering p i true false area =
          second_story false area answering (ap (λ k. turn k true false) p) now (same_came (receive true false area)) (second_reason now area) refl
      later_story answering p i false true area = presence_story true area (ap (λ k. turn k false true) p) (open_door now) (opens_as (receive false true area)) (presence_reason area) refl
      later_story answering p i false false area = same_came (receive false false area)
      later_story opened p i syn ack area = absurd (true≢false (sym i))
      later_story unencrypted p i syn ack area = absurd (true≢false (sym i))

    received_story : (syn ack : Bool) (area : List ℕ) → too_long area ≡ false → Story d cs now → Came (receive syn ack area) (received now (turn (phase_of now.phase) syn ack) area)
    unfolding turn received
    received_story syn ack area fits (resting p) = subst (λ k. Came (receive syn ack area) (received now (turn k syn ack) area)) (sym p) (same_came (receive syn ack area))
    received_story true true area fits (sent xs b aware mandatory list resume nonce lent option hand w s x l f) =
        subst (λ k. Came (receive true true area) (received now (turn k true true) area)) (sym (ap (λ (y : Door). phase_of y.phase) x ∙ offered_phase option mandatory hand))
        (judged_story true area fits xs b aware mandatory list resume nonce lent option hand w s x l f true refl _ refl)
    received_story true false area fits (sent xs b aware mandatory list resume nonce lent option hand w s x l f) =
        subst (λ k. Came (receive true false area) (received now (turn k true false) area)) (sym (ap (λ (y : Door). phase_of y.phase) x ∙ offered_phase option mandatory hand))
        (judged_story false area fits xs b aware mandatory list resume nonce lent option hand w s x l f false refl _ refl)
    received_story false ack area fits (sent xs b aware mandatory list resume nonce lent option hand w s x l f) =
        subst (λ k. Came (receive false ack area) (received now (turn k false ack) area)) (sym (ap (λ (y : Door). phase_of y.phase) x ∙ offered_phase option mandatory hand))
        (same_came (receive false ack area))
    received_story syn ack area fits (waiting t x p i) = later_story t x p i (phase_of now.phase) refl p syn ack area
    received_story syn ack area fits (open_as t x p i) = subst (λ k. Came (receive syn ack area) (received now (turn k syn ack) area)) (sym p) (same_came (receive syn ack area))
    received_story syn ack area fits (plain_as n x p) =
        subst (λ k. Came (receive syn ack area) (received now (turn k syn ack) area)) (sym (ap (λ (y : Door). phase_of y.phase) p ∙ plain_phase n)) (same_came (receive syn ack area))

    -- any call
    told_as_came : (q : Ask) (x : Outcome) → Came q x.door → Told-as q x
    unfolding Told-as Came
    told_as_came q x f e = f (ap (λ (y : Outcome). y.door) e)

    closed : (q : Ask) (x : Outcome) → x.door ≡ idle_door → Told-as q x
    unfolding Told-as
    closed q x e p = resting (ap (λ (y : Door). phase_of y.phase) e ∙ idle_phase)

    any_call : (q : Ask) → Told-as q (outcome true seen q)
    unfolding outcome o.offer a.answer r.receive r.resend r.result r.close k.store k.forget k.count
    any_call (offer b aware mandatory list resume nonce s) =
        unless_law (Told-as (offer b aware mandatory list resume nonce s)) _ now s _ (refused_stays _ s _)
        (λ x. offer_story b aware mandatory list resume nonce s _ refl refl refl (not-false _ x.0) (ltb-false _ _ x.1.1.0))
    any_call (answer area aware mandatory list nonce s) =
        unless_law (Told-as (answer area aware mandatory list nonce s)) _ now s _ (refused_stays _ s _)
        (λ x. answer_story area aware mandatory list nonce s (a.answering seen mandatory area list) refl x.0 (not-false _ x.1.0) (ltb-false _ _ x.1.1.1.0))
    any_call (receive syn ack area) =
        unless_law (Told-as (receive syn ack area)) _ now [] _ (refused_stays _ [] _) (λ x. told_as_came _ _ (received_story syn ack area x.0 story))
    any_call (resend s) = unless_law (Told-as (resend s)) _ now s _ (refused_stays _ s _) (λ x. stays _ _ refl)
    any_call (result s) = unless_law (Told-as (result s)) _ now s _ (refused_stays _ s _) (λ x. stays _ _ refl)
    any_call close = closed close _ refl
    any_call (store t role identifier secret) = unless_law (Told-as (store t role identifier secret)) _ now [] _ (refused_stays _ [] _) (λ x. stays _ _ refl)
    any_call (forget t identifier) = unless_law (Told-as (forget t identifier)) _ now [] _ (refused_stays _ [] _) (λ x. stays _ _ refl)
    any_call count = stays count _ refl

    next_story : (q : Ask) → Story d (cs ++ on d q ∷ []) (outcome true seen q).door
    unfolding Told-as
    next_story q = any_call q refl

-- after every list of calls
record Kept (d : ℕ) (cs : List Call) (v : Seen) : Type 0 where
  story : Story d cs v.door
  whole : AllWhole v.held

module _ (d : ℕ) (h : d < doors_n) where
  idle_kept : (cs : List Call) → Kept d cs idle_view
  unfolding idle_view AllWhole
  idle_kept cs = record { story = resting idle_phase; whole = tt }

  own_kept : (cs : List Call) (q : Ask) → Kept d cs (seen_after d cs) → Kept d (cs ++ on d q ∷ []) (door.after (seen_after d cs) (outcome true (seen_after d cs) q))
  unfolding door.after WholeAfter
  own_kept cs q s = record { story = next_story d h cs s.story s.whole q; whole = whole_outcome (seen_after d cs) s.whole q }

  kept : (cs : List Call) → Kept d cs (seen_after d cs)
  kept =
      along d h (Kept d) (idle_kept []) (λ cs. idle_kept (cs ++ erase ∷ []))
      (λ cs c e s. record { story = same_story d cs c (door_after d cs) (ap (λ (v : Seen). v.door) e) s.story; whole = s.whole }) own_kept

  pub door_story : (cs : List Call) → Story d cs (door_after d cs)
  door_story cs = (kept cs).story

  -- each record that a door holds has an identifier of 18 bytes
  pub held_whole : (cs : List Call) → Every (λ (x : SessionRecord). length x.identifier ≡ 18) (seen_after d cs).held
  unfolding AllWhole
  held_whole cs = (kept cs).whole
