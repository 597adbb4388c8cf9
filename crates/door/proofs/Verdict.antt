-- What a door stores is the judge's verdict, what it sends again is what it sent, and what it drops is zeros.
use Rattle.std.specs.Prelude.{ℕ, ◌-◌, ◌≤◌, min, Bool, cond, ◌&&◌, ◌||◌, ◌↔◌, eqb, length, get_or, take, replicate}
use Rattle.std.proofs.Math.Path.{◌≡◌, refl, sym, ap}
use Rattle.std.proofs.Common.{◌∙◌, subst, le-ltb, ltb-true, take_at}
use mathlib.Core.List.{List, [], ◌∷◌, ◌++◌}
use Rattle.std.proofs.Math.Bool.{true, false, not}
use Rattle.std.proofs.Math.Option.{Option, none, some}
use Rattle.std.proofs.Math.Nat.{min-eq_left}
use native.Mathlib.Omega.{arith}
use Rattle.std.proofs.Math.Dec.{ltb, leb}
use Rattle.eno.specs.Area.{syn_option}
use Rattle.eno.specs.Session.{in_hand}
use Rattle.eno.specs.Judge as judged
use Rattle.eno.specs.Judge.{Way, way_if, of_a, of_b, Negotiated, agreed, negotiate, first_of, Judged, encrypt, too_long, role_of, judge}
use Rattle.eno.specs.Option.{option_with, is_listed, is_tep_list, record_listed, offer_fits, offered}
use Rattle.eno.proofs.ReadBack.{option_alone}
use Rattle.eno.specs.Laws.Walk.{Every}
use Rattle.eno.specs.Laws.Asked.{IsTep}
use Rattle.eno.proofs.Laws.Asked.{and_true, listed_tep, offer_may_be_asked}
use Rattle.eno.proofs.Laws.Found.{found_short}
use Rattle.eno.specs.declared.SessionRecord.{SessionRecord}
use Rattle.eno.specs.declared.Cause.{Cause}
use Rattle.door.specs.Door.{offering, crossed, answering, unencrypted, phase_of, kept, own_option, peer_option, transcript_of, no_session, empty_hand, idle_door}
use Rattle.door.specs.Record.{first_that, past_end, record_at}
use Rattle.door.specs.Outcome.{refusal, unless}
use Rattle.door.specs.Offer.{terms_fit, offered_at, offered_door}
use Rattle.door.specs.Answer.{Choice, choose_tep, answer_reason, plain_door, answered_door}
use Rattle.door.specs.Receive.{turn, open_door, judged_door, after_judging, second_reason, presence_reason, plain_or, received, receive, may_send, resend, close}
use Rattle.door.specs.Laws.Choice.{SentWell, Chosen, freshly, resuming}
use Rattle.door.proofs.Laws.Choice.{first_passes, every_at, no_record, chosen}
use Rattle.door.specs.Laws.Judged.{Accepts}
use Rattle.door.proofs.Laws.Judged.{accepts}
use Rattle.door.proofs.Laws.Answered.{terms, Agrees, fresh_agrees, resumed_agrees}
use Rattle.door.specs.declared.Door.{Door}
use Rattle.door.specs.Verdict.{answer_option, answer_door, resent, phase_after, Stored}

-- an answer's verdict is the judge's: host B, TEP byte and way as stored, A's option followed by B's
pub answer_agrees : (aware mandatory : Bool) (area list nonce : List ℕ) (held : List SessionRecord) (c : Choice) → too_long area ≡ false → terms_fit aware mandatory list nonce ≡ true
    → answer_reason mandatory area ≡ none → choose_tep (syn_option area) list held ≡ some c → Every (λ r. length r.identifier ≡ 18) held
    → judge mandatory (record_at held c.at) (answer_option aware nonce held c) area
    ≡ encrypt 1 (answer_door aware mandatory area nonce held c).tep (way_if (answer_door aware mandatory area nonce held c).resumed) (syn_option area ++ answer_option aware nonce held c)
answer_agrees aware mandatory area list nonce held c long fit reason choice whole = go (chosen (syn_option area) list held c choice)
  where
    ok : Accepts mandatory area
    ok = accepts mandatory area reason

    t : ℕ
    t = c.tep

    tep_of : is_listed t list ≡ true → IsTep t
    tep_of l = listed_tep t list (terms aware mandatory list nonce fit).0 l

    short : leb (length nonce) 8 ≡ true
    short = (terms aware mandatory list nonce fit).1

    agrees : SentWell (syn_option area) t → IsTep t → Option SessionRecord → Type 0
    agrees w i = Agrees aware mandatory area nonce t i short long ok w

    go : Chosen (syn_option area) list held c → judge mandatory (record_at held c.at) (answer_option aware nonce held c) area
        ≡ encrypt 1 (answer_door aware mandatory area nonce held c).tep (way_if (answer_door aware mandatory area nonce held c).resumed) (syn_option area ++ answer_option aware nonce held c)
    go (freshly l w none_there) = subst (agrees w (tep_of l)) (sym none_there) (fresh_agrees aware mandatory area nonce t (tep_of l) short long ok w)
    go (resuming l w resumption within r is there e expected) =
        let long18 : length r.identifier ≡ 18 = subst (λ (q : SessionRecord). length q.identifier ≡ 18) is (every_at (λ q. length q.identifier ≡ 18) held c.at whole within) in
        subst (agrees w (tep_of l)) (sym there) (resumed_agrees aware mandatory area nonce t (tep_of l) short long ok w r e long18 resumption expected)

-- an option that is kept is read back
pub kept_own : (o : List ℕ) → length o ≤ 40 → take (min (length o) 40) (kept o) ≡ o
unfolding kept
kept_own o h = take_at o (replicate (40 - length o) 0) (min (length o) 40) (sym (min-eq_left h))

module _ (o p : List ℕ) (mandatory : Bool) (t : ℕ) (hand : Option SessionRecord) (short : length o ≤ 40) where
  -- a door that has offered or answered holds the option that it sent
  pub offered_own : own_option (offered_door o mandatory hand) ≡ o
  unfolding own_option offered_door
  offered_own = kept_own o short

  pub answered_own : own_option (answered_door o p mandatory t hand) ≡ o
  unfolding own_option answered_door
  answered_own = kept_own o short

  -- and a door that has answered the option that it answered
  pub answered_peer : length p ≤ 40 → peer_option (answered_door o p mandatory t hand) ≡ p
  unfolding peer_option answered_door
  answered_peer h = kept_own p h

module _ (d : Door) where
  -- a verdict changes nothing of what was sent, and stores what was received
  pub judged_own : (p : List ℕ) (role byte : ℕ) (way : Way) → own_option (judged_door d p role byte way) ≡ own_option d
  unfolding own_option judged_door
  judged_own p role byte way = refl

  pub judged_peer : (p : List ℕ) (role byte : ℕ) (way : Way) → length p ≤ 40 → peer_option (judged_door d p role byte way) ≡ p
  unfolding peer_option judged_door
  judged_peer p role byte way h = kept_own p h

  -- opening changes neither
  pub open_own : own_option (open_door d) ≡ own_option d
  unfolding own_option open_door
  open_own = refl

  pub open_peer : peer_option (open_door d) ≡ peer_option d
  unfolding peer_option open_door
  open_peer = refl

resends : (d : Door) (o s : List ℕ) → own_option d ≡ o → may_send (phase_of d.phase) ≡ true → length o ≤ length s → resend d s ≡ resent d o s
unfolding resend unless refusal
resends d o s e m h = simp (e, m, le-ltb _ _ h)

-- resend writes the same option again: what was offered
pub offered_resends : (o s : List ℕ) (mandatory : Bool) (hand : Option SessionRecord) → length o ≤ 40 → length o ≤ length s
    → resend (offered_door o mandatory hand) s ≡ resent (offered_door o mandatory hand) o s
unfolding offered_door phase_of
offered_resends o s mandatory hand short h = resends (offered_door o mandatory hand) o s (offered_own o [] mandatory 0 hand short) refl h

-- or answered
pub answered_resends : (o p s : List ℕ) (mandatory : Bool) (t : ℕ) (hand : Option SessionRecord) → length o ≤ 40 → length o ≤ length s
    → resend (answered_door o p mandatory t hand) s ≡ resent (answered_door o p mandatory t hand) o s
unfolding answered_door phase_of
answered_resends o p s mandatory t hand short h = resends (answered_door o p mandatory t hand) o s (answered_own o p mandatory t hand short) refl h

-- after a crossed SYN still what was sent
pub crossed_resends : (d : Door) (p : List ℕ) (role byte : ℕ) (way : Way) (s : List ℕ) → length (own_option d) ≤ length s
    → resend (judged_door d p role byte way) s ≡ resent (judged_door d p role byte way) (own_option d) s
unfolding judged_door phase_of
crossed_resends d p role byte way s h = resends (judged_door d p role byte way) (own_option d) s (judged_own d p role byte way) refl h

-- the option that an offer writes has at most 40 bytes and is an area of its own
module _ (b : ℕ) (aware mandatory : Bool) (list : List ℕ) (resume : Bool) (nonce : List ℕ) (held : List SessionRecord) (fit : leb b 1 && terms_fit aware mandatory list nonce ≡ true) where
  -- the record that is taken, and the option
  abbrev offer_taken : Option SessionRecord
  offer_taken = record_at held (offered_at resume list held)

  abbrev offer_option : List ℕ
  offer_option = option_with (offered b aware list offer_taken nonce)

  taken_listed : record_listed offer_taken list ≡ true
  unfolding record_listed record_at offered_at
  taken_listed = go resume
    where
      first : (c : Bool) → ltb (first_that (λ r. is_listed r.tep list) held) (length held) ≡ c
          → record_listed (cond c (some (get_or held (first_that (λ r. is_listed r.tep list) held) past_end)) none) list ≡ true
      first true q = first_passes (λ r. is_listed r.tep list) held (ltb-true _ _ q)
      first false q = refl

      go : (c : Bool) → record_listed (record_at held (offered_at c list held)) list ≡ true
      go true = first (ltb (first_that (λ r. is_listed r.tep list) held) (length held)) refl
      go false = ap (λ m. record_listed m list) (no_record held)

  offer_fits_lem : offer_fits b list offer_taken nonce ≡ true
  unfolding terms_fit offer_fits
  offer_fits_lem =
      let x = and_true (leb b 1) (terms_fit aware mandatory list nonce) fit in
      let y = and_true (is_tep_list list && leb (length nonce) 8) (aware || not mandatory) x.1 in
      let z = and_true (is_tep_list list) (leb (length nonce) 8) y.0 in
      simp (x.0, z.0, z.1, taken_listed)

  pub offer_at_most : length offer_option ≤ 40
  offer_at_most = (offer_may_be_asked b aware list offer_taken nonce offer_fits_lem).short

  pub offer_alone : syn_option offer_option ≡ offer_option
  unfolding syn_option
  offer_alone = option_alone (offered b aware list offer_taken nonce) true offer_at_most

  -- so an offered door's own option is
  pub offered_alone : syn_option (own_option (offered_door offer_option mandatory offer_taken)) ≡ own_option (offered_door offer_option mandatory offer_taken)
  offered_alone = let e = offered_own offer_option [] mandatory 0 offer_taken offer_at_most in ap syn_option e ∙ (offer_alone ∙ sym e)

-- the option of an area has at most 40 bytes
pub option_at_most : (s : List ℕ) → length (syn_option s) ≤ 40
unfolding syn_option
option_at_most s = found_short s true _ refl

-- what the judge says where it says encrypt: the transcript is A's option followed by B's
module _ (role byte : ℕ) (way : Way) (t : List ℕ) where
  abbrev Encrypts : Judged → Type 0
  Encrypts j = j ≡ encrypt role byte way t

  -- where the first test that holds does not say so, the rest does
  last_decides : (l : List (Bool × Judged)) (last : Judged) → Every (λ (x : Bool × Judged). Encrypts x.1 → ⊥) l → Encrypts (first_of l last) → Encrypts last
  unfolding first_of
  last_decides [] last z e = e
  last_decides (x ∷ l) last z e = go x.0 e (last_decides l last z.1)
    where
      go : (b : Bool) → Encrypts (cond b x.1 (first_of l last)) → (Encrypts (first_of l last) → Encrypts last) → Encrypts last
      go true q rest = absurd (z.0 q)
      go false q rest = rest q

  not_refused : (n : ℕ) → Encrypts (judged.refuse n) → ⊥
  not_refused n e = let z : ◌≡◌ {A = ℕ} 0 1 = cc in omega arith

  not_plain : (n : Cause) → Encrypts (judged.plain n) → ⊥
  not_plain n e = let z : ◌≡◌ {A = ℕ} 0 1 = cc in omega arith

  module _ (own peer : List ℕ) where
    abbrev AThenB : Type 0
    AThenB = t ≡ of_a (eqb role 1) own peer ++ of_b (eqb role 1) own peer

    agreed_transcript : (hand : Option SessionRecord) (b : ℕ) (m : Option Negotiated)
        → Encrypts (agreed b (record { hand = hand; own = own; peer = peer; own_is_b = eqb b 1 }) m) → AThenB
    unfolding agreed
    agreed_transcript hand b none e = absurd (not_plain _ e)
    agreed_transcript hand b (some n) e =
        let r : b ≡ role = cc in
        let u : of_a (eqb b 1) own peer ++ of_b (eqb b 1) own peer ≡ t = cc in
        sym u ∙ ap (λ k. of_a (eqb k 1) own peer ++ of_b (eqb k 1) own peer) r

    negotiated_transcript : (hand : Option SessionRecord) (b : ℕ) → Encrypts (negotiate b (record { hand = hand; own = own; peer = peer; own_is_b = eqb b 1 })) → AThenB
    unfolding negotiate
    negotiated_transcript hand b e = agreed_transcript hand b _ e

  pub judged_transcript : (mandatory : Bool) (hand : Option SessionRecord) (ownArea peerArea : List ℕ) → Encrypts (judge mandatory hand ownArea peerArea)
      → t ≡ of_a (eqb role 1) (syn_option ownArea) (syn_option peerArea) ++ of_b (eqb role 1) (syn_option ownArea) (syn_option peerArea)
  unfolding judge
  judged_transcript mandatory hand ownArea peerArea e =
      negotiated_transcript (syn_option ownArea) (syn_option peerArea) hand (role_of (syn_option ownArea))
      (last_decides _ _ (not_refused 2, (not_plain _, (not_plain _, (not_plain _, (not_plain _, (not_plain _, (not_plain _, tt))))))) e)

module _ (d : Door) (p : List ℕ) (role byte : ℕ) (way : Way) (short : length p ≤ 40) where
  judged_stored : Stored (judged_door d p role byte way) role byte way (of_a (eqb role 1) (own_option d) p ++ of_b (eqb role 1) (own_option d) p)
  unfolding judged_door transcript_of own_option peer_option
  judged_stored =
      record {
        role_is = refl;
        byte_is = refl;
        way_is = refl;
        transcript_is = ap (λ q. of_a (eqb role 1) (own_option d) q ++ of_b (eqb role 1) (own_option d) q) (kept_own p short);
      }

-- opening keeps a verdict
pub open_stored : (e : Door) (role byte : ℕ) (way : Way) (t : List ℕ) → Stored e role byte way t → Stored (open_door e) role byte way t
unfolding open_door transcript_of own_option peer_option
open_stored e role byte way t s = record { role_is = s.role_is; byte_is = s.byte_is; way_is = s.way_is; transcript_is = s.transcript_is }

-- in Offered a SYN is judged, by the option that this end sent and the record in hand
module _ (d : Door) (ack : Bool) (area : List ℕ) (phase : phase_of d.phase ≡ offering) (fits : too_long area ≡ false) where
  abbrev pub verdict : Judged
  verdict = judge d.mandatory (in_hand d.hand) (own_option d) area

  pub after_syn : (receive d true ack area).door ≡ after_judging d (phase_after ack) (syn_option area) verdict
  unfolding receive turn received unless refusal
  after_syn = go ack
    where
      go : (b : Bool) → (receive d true b area).door ≡ after_judging d (phase_after b) (syn_option area) verdict
      go true = rw (phase, fits)
      go false = rw (phase, fits)

  -- each reason ends in Plain
  pub receive_plain : (n : Cause) → verdict ≡ judged.plain n → (receive d true ack area).door ≡ plain_door n
  receive_plain n e = after_syn ∙ ap (after_judging d (phase_after ack) (syn_option area)) e

  -- else the verdict is stored
  pub receive_judges : (role byte : ℕ) (way : Way) (t : List ℕ) → verdict ≡ encrypt role byte way t → syn_option (own_option d) ≡ own_option d
      → Stored (receive d true ack area).door role byte way t
  receive_judges role byte way t e alone =
      subst (λ x. Stored x role byte way t) (sym (after_syn ∙ ap (after_judging d (phase_after ack) (syn_option area)) e)) (go ack)
    where
      same : of_a (eqb role 1) (own_option d) (syn_option area) ++ of_b (eqb role 1) (own_option d) (syn_option area) ≡ t
      same =
          ap (λ q. of_a (eqb role 1) q (syn_option area) ++ of_b (eqb role 1) q (syn_option area)) (sym alone)
          ∙ sym (judged_transcript role byte way t d.mandatory (in_hand d.hand) (own_option d) area e)

      stored : Stored (judged_door d (syn_option area) role byte way) role byte way t
      stored = subst (Stored (judged_door d (syn_option area) role byte way) role byte way) same (judged_stored d (syn_option area) role byte way (option_at_most area))

      go : (b : Bool) → Stored (after_judging d (phase_after b) (syn_option area) (encrypt role byte way t)) role byte way t
      go true = open_stored (judged_door d (syn_option area) role byte way) role byte way t stored
      go false = stored

-- a dropped record is overwritten with zeros
pub empty_is_zeros : empty_hand ≡ record { held = false; session = record { tep = 0; role = 0; identifier = replicate 18 0; secret = replicate 32 0 } }
unfolding empty_hand no_session
empty_is_zeros = refl

-- Plain drops what was in hand
pub plain_drops : (n : Cause) → (plain_door n).hand ≡ empty_hand
unfolding plain_door
plain_drops n = refl

-- so do Idle and close
pub idle_drops : idle_door.hand ≡ empty_hand
unfolding idle_door
idle_drops = refl

pub close_drops : close.door.hand ≡ empty_hand
unfolding close idle_door
close_drops = refl

-- and a fresh Open
pub fresh_open_drops : (d : Door) → d.resumed ≡ false → (open_door d).hand ≡ empty_hand
unfolding open_door
fresh_open_drops d e = rw e

-- a resumed Open keeps it
pub resumed_open_keeps : (d : Door) → d.resumed ≡ true → (open_door d).hand ≡ d.hand
unfolding open_door
resumed_open_keeps d e = rw e

-- a door that is not in Plain becomes plain exactly by a reason
plain_exactly : (m : Option Cause) (e : Door) (n : Cause) → (e.phase ≡ 5 → ⊥) → (plain_or m e ≡ plain_door n) ↔ (m ≡ some n)
unfolding plain_door
plain_exactly none e n z = (λ q. absurd (z (ap (λ (x : Door). x.phase) q)), λ q. let y : ◌≡◌ {A = ℕ} 0 1 = cc in absurd (omega arith))
plain_exactly (some m) e n z = (λ q. ap some (ap (λ (x : Door). x.cause) q), λ q. let y : m ≡ n = cc in ap plain_door y)

module _ (d : Door) (area : List ℕ) (fits : too_long area ≡ false) where
  -- in Crossed, with SYN+ACK, and in Answered, with SYN: judged by 1, 2, 3, 7
  pub crossed_second : phase_of d.phase ≡ crossed → (receive d true true area).door ≡ plain_or (second_reason d area) (open_door d)
  unfolding receive turn received unless refusal
  crossed_second e = rw (e, fits)

  pub answered_second : phase_of d.phase ≡ answering → (receive d true false area).door ≡ plain_or (second_reason d area) d
  unfolding receive turn received unless refusal
  answered_second e = rw (e, fits)

  -- with ACK alone: by 1 and 2
  pub crossed_presence : phase_of d.phase ≡ crossed → (receive d false true area).door ≡ plain_or (presence_reason area) (open_door d)
  unfolding receive turn received unless refusal
  crossed_presence e = rw (e, fits)

  pub answered_presence : phase_of d.phase ≡ answering → (receive d false true area).door ≡ plain_or (presence_reason area) (open_door d)
  unfolding receive turn received unless refusal
  answered_presence e = rw (e, fits)

  open_not_plain : (open_door d).phase ≡ 5 → ⊥
  unfolding open_door
  open_not_plain e = omega arith

  answering_not_plain : phase_of d.phase ≡ answering → d.phase ≡ 5 → ⊥
  unfolding phase_of
  answering_not_plain e q = let z : unencrypted ≡ answering = sym (ap phase_of q) ∙ e in let y : ◌≡◌ {A = ℕ} 0 1 = cc in omega arith

  by : {x y : Door} (n : Cause) {R : Type 0} → x ≡ y → (y ≡ plain_door n) ↔ R → (x ≡ plain_door n) ↔ R
  by n e r = (λ q. r.0 (sym e ∙ q), λ q. e ∙ r.1 q)

  -- plain exactly for the first reason of the second SYN
  pub crossed_second_reasons : phase_of d.phase ≡ crossed → (n : Cause) → ((receive d true true area).door ≡ plain_door n) ↔ (second_reason d area ≡ some n)
  crossed_second_reasons e n = by n (crossed_second e) (plain_exactly (second_reason d area) (open_door d) n open_not_plain)

  pub answered_second_reasons : phase_of d.phase ≡ answering → (n : Cause) → ((receive d true false area).door ≡ plain_door n) ↔ (second_reason d area ≡ some n)
  answered_second_reasons e n = by n (answered_second e) (plain_exactly (second_reason d area) d n (answering_not_plain e))

  -- and of the ACK
  pub crossed_presence_reasons : phase_of d.phase ≡ crossed → (n : Cause) → ((receive d false true area).door ≡ plain_door n) ↔ (presence_reason area ≡ some n)
  crossed_presence_reasons e n = by n (crossed_presence e) (plain_exactly (presence_reason area) (open_door d) n open_not_plain)

  pub answered_presence_reasons : phase_of d.phase ≡ answering → (n : Cause) → ((receive d false true area).door ≡ plain_door n) ↔ (presence_reason area ≡ some n)
  answered_presence_reasons e n = by n (answered_presence e) (plain_exactly (presence_reason area) (open_door d) n open_not_plain)
