-- Every cause that a call of a door gives is the right one of the area that is handed to that very call; a door in Plain gives the one that it keeps.
use Rattle.std.specs.Prelude.{ℕ, ◌≤◌, Bool, cond, not, ◌||◌, ◌⊎◌, length}
use Rattle.std.proofs.Math.Path.{◌≡◌, refl, sym, ap, subst}
use Rattle.std.proofs.Common.{◌∙◌, true≢false, inr, arith, ltb-false}
use mathlib.Core.List.{List, [], ◌∷◌}
use Rattle.std.proofs.Math.Bool.{true, false}
use Rattle.std.proofs.Math.Option.{Option, none, some}
use Rattle.std.proofs.Math.Logic.{inl}
use Rattle.eno.specs.Area.{Fault, unreadable, finding, syn_option, most_area}
use Rattle.eno.specs.Cause.{numbered, blame, first_cause}
use Rattle.eno.specs.Blame.{Blamed}
use Rattle.eno.proofs.Blame.{blamed_unreadable}
use Rattle.eno.specs.Causes.{CauseOf, area_blamed}
use Rattle.eno.proofs.Causes.{numbered_right, blame_right, first_right, judge_right}
use Rattle.eno.specs.Session.{in_hand}
use Rattle.eno.specs.Judge as judged
use Rattle.eno.specs.Judge.{Way, Judged, encrypt, is_unreadable, too_long, judge}
use Rattle.eno.specs.declared.SessionRecord.{SessionRecord}
use Rattle.eno.specs.declared.Cause.{Cause}
use Rattle.door.specs.Door.{Phase, idle, offering, crossed, answering, opened, unencrypted, phase_of, own_option, idle_door, Seen}
use Rattle.door.specs.Outcome.{Reply, written, plain, encrypted, done, holds, Outcome, keep, refusal, unless}
use Rattle.door.specs.Offer as o
use Rattle.door.specs.Offer.{offered_door}
use Rattle.door.specs.Answer as a
use Rattle.door.specs.Answer.{Choice, choose_tep, chosen_or, reason_or, answer_reason, plain_for, with, plain_door, answered_door, answer_with}
use Rattle.door.specs.Receive as r
use Rattle.door.specs.Receive.{turn, open_door, judged_door, after_judging, second_reason, presence_reason, plain_or, then_in, received, now_says, is_open, is_plain}
use Rattle.door.specs.Records as k
use Rattle.door.specs.Calls.{Ask, offer, answer, receive, resend, result, close, store, forget, count, outcome}
use Rattle.door.specs.declared.Door.{Door}
use Rattle.door.specs.Causes.{handed, Gives, by_area, by_own, as_kept}

-- why an answer is plain: right of the area handed to it
chosen_right : (area : List ℕ) (m : Option Choice) (c : Cause) → chosen_or m ≡ plain_for c → CauseOf area c
chosen_right area none c e = let q : numbered 6 ≡ c = cc in subst (CauseOf area) q (numbered_right area 6 (λ z. omega arith))
chosen_right area (some m) c e = let z : ◌≡◌ {A = ℕ} 0 1 = cc in absurd (omega arith)

answer_right : (mandatory : Bool) (area : List ℕ) (c : Cause) → answer_reason mandatory area ≡ some c → CauseOf area c
unfolding answer_reason
answer_right mandatory area c e =
    first_right area _ c (
      blame_right area true,
      (λ t. numbered_right area _ (λ z. omega arith), (λ t. numbered_right area _ (λ z. omega arith), (λ t. numbered_right area _ (λ z. omega arith), (λ t. numbered_right area _ (λ z. omega arith), tt)))),
    ) e

pub answering_right : (v : Seen) (mandatory : Bool) (area list : List ℕ) (c : Cause) → a.answering v mandatory area list ≡ plain_for c → CauseOf area c
unfolding a.answering
answering_right v mandatory area list c e = go (answer_reason mandatory area) refl e
  where
    go : (m : Option Cause) → answer_reason mandatory area ≡ m → reason_or m (chosen_or (choose_tep (syn_option area) list v.held)) ≡ plain_for c → CauseOf area c
    go none q p = chosen_right area (choose_tep (syn_option area) list v.held) c p
    go (some n) q p = let same : n ≡ c = cc in answer_right mandatory area c (q ∙ ap some same)

-- why a second SYN is
pub second_right : (d : Door) (area : List ℕ) (c : Cause) → second_reason d area ≡ some c → CauseOf area c
unfolding second_reason
second_right d area c e =
    first_right area _ c (
      blame_right area true,
      (λ t. numbered_right area 2 (λ z. omega arith), (λ t. numbered_right area 3 (λ z. omega arith), (λ t. numbered_right area 7 (λ z. omega arith), tt))),
    ) e

-- and why a non-SYN is
pub presence_right : (area : List ℕ) (c : Cause) → presence_reason area ≡ some c → CauseOf area c
unfolding presence_reason
presence_right area c e = first_right area _ c (blame_right area false, (λ t. numbered_right area 2 (λ z. omega arith), tt)) e

-- an unreadable area of at most 40 bytes is always blamed
module _ (area : List ℕ) (f : Fault) (short : length area ≤ most_area) (b : Blamed area f) where
  pub answering_blames : (v : Seen) (mandatory : Bool) (list : List ℕ) → a.answering v mandatory area list ≡ plain_for (blame (unreadable f))
  unfolding a.answering answer_reason first_cause
  answering_blames v mandatory list = simp (blamed_unreadable area true f short b)

  pub second_blames : (d : Door) → second_reason d area ≡ some (blame (unreadable f))
  unfolding second_reason first_cause
  second_blames d = simp (blamed_unreadable area true f short b)

  pub presence_blames : presence_reason area ≡ some (blame (unreadable f))
  unfolding presence_reason first_cause
  presence_blames = simp (blamed_unreadable area false f short b)

-- a call that is one of `unless` and gives a cause is not refused
pub said : (t : Option ℕ) (d : Door) (s : List ℕ) (x : Outcome) (c : Cause) → (unless t d s x).reply ≡ plain c → (t ≡ none) × (unless t d s x ≡ x)
unfolding unless
said none d s x c e = (refl, refl)
said (some n) d s x c e = let z : ◌≡◌ {A = ℕ} 0 1 = cc in absurd (omega arith)

pub first_fails : (b : Bool) (n : ℕ) (l : List (Bool × ℕ)) → refusal ((b, n) ∷ l) ≡ none → b ≡ false
unfolding refusal
first_fails true n l e = let z : ◌≡◌ {A = ℕ} 0 1 = cc in absurd (omega arith)
first_fails false n l e = refl

now_plain : (p : Phase) (n c : Cause) → now_says p n ≡ plain c → (p ≡ unencrypted) × (n ≡ c)
now_plain idle n c e = let z : ◌≡◌ {A = ℕ} 0 1 = cc in absurd (omega arith)
now_plain offering n c e = let z : ◌≡◌ {A = ℕ} 0 1 = cc in absurd (omega arith)
now_plain crossed n c e = let z : ◌≡◌ {A = ℕ} 0 1 = cc in absurd (omega arith)
now_plain answering n c e = let z : ◌≡◌ {A = ℕ} 0 1 = cc in absurd (omega arith)
now_plain opened n c e = let z : ◌≡◌ {A = ℕ} 0 1 = cc in absurd (omega arith)
now_plain unencrypted n c e = (refl, cc)

-- phases that are not Plain
abbrev NotPlain : Phase → Type 0
NotPlain p = p ≡ unencrypted → ⊥

open_not : (d : Door) → NotPlain (phase_of (open_door d).phase)
unfolding open_door phase_of
open_not d e = let z : ◌≡◌ {A = ℕ} 0 1 = cc in omega arith

judged_not : (d : Door) (p : List ℕ) (role byte : ℕ) (way : Way) → NotPlain (phase_of (judged_door d p role byte way).phase)
unfolding judged_door phase_of
judged_not d p role byte way e = let z : ◌≡◌ {A = ℕ} 0 1 = cc in omega arith

offered_not : (w : List ℕ) (mandatory : Bool) (hand : Option SessionRecord) → NotPlain (phase_of (offered_door w mandatory hand).phase)
unfolding offered_door phase_of
offered_not w mandatory hand e = let z : ◌≡◌ {A = ℕ} 0 1 = cc in omega arith

answered_not : (w p : List ℕ) (mandatory : Bool) (t : ℕ) (hand : Option SessionRecord) → NotPlain (phase_of (answered_door w p mandatory t hand).phase)
unfolding answered_door phase_of
answered_not w p mandatory t hand e = let z : ◌≡◌ {A = ℕ} 0 1 = cc in omega arith

idle_not : NotPlain (phase_of idle_door.phase)
unfolding idle_door phase_of
idle_not e = let z : ◌≡◌ {A = ℕ} 0 1 = cc in omega arith

-- a door that a received segment leaves in Plain
module _ (v : Seen) (c : Cause) where
  abbrev d : Door
  d = v.door

  -- the door e is in Plain with the cause c
  abbrev PlainNow : Door → Type 0
  PlainNow e = (phase_of e.phase ≡ unencrypted) × (e.cause ≡ c)

  -- by a reason; without one the door is not in Plain
  by_first : (q : Ask) (area : List ℕ) → handed q ≡ some area → length area ≤ most_area → (m : Option Cause) → ((n : Cause) → m ≡ some n → CauseOf area n) → (e : Door) → NotPlain (phase_of e.phase)
      → PlainNow (plain_or m e) → Gives v q (plain_or m e) c
  unfolding plain_door
  by_first q area h s none right e z x = absurd (z x.0)
  by_first q area h s (some n) right e z x = let same : n ≡ c = x.1 in by_area area h s (right c (ap some same)) (ap plain_door same)

  module _ (area : List ℕ) (ack : Bool) (short : length area ≤ most_area) (in-offered : phase_of d.phase ≡ offering) where
    abbrev own : List ℕ
    own = own_option d

    by_either : CauseOf (area_blamed own area) c → Gives v (receive true ack area) (plain_door c) c
    by_either x = go (is_unreadable (finding own true)) refl x
      where
        go : (b : Bool) → is_unreadable (finding own true) ≡ b → CauseOf (cond b own area) c → Gives v (receive true ack area) (plain_door c) c
        go true e y = by_own ack area refl in-offered e y refl
        go false e y = by_area area refl short y refl

    by_judge : (then : Phase) → ((p : List ℕ) (role byte : ℕ) (way : Way) → NotPlain (phase_of (then_in then (judged_door d p role byte way)).phase)) → (j : Judged)
        → judge d.mandatory (in_hand d.hand) own area ≡ j → PlainNow (after_judging d then (syn_option area) j) → Gives v (receive true ack area) (after_judging d then (syn_option area) j) c
    unfolding plain_door
    by_judge then z (judged.refuse n) q x = let e : offering ≡ unencrypted = sym in-offered ∙ x.0 in let y : ◌≡◌ {A = ℕ} 0 1 = cc in absurd (omega arith)
    by_judge then z (judged.plain n) q x =
        let same : n ≡ c = x.1 in
        subst (λ m. Gives v (receive true ack area) (plain_door m) c) (sym same) (by_either (judge_right d.mandatory (in_hand d.hand) own area c (q ∙ ap judged.plain same)))
    by_judge then z (encrypt role byte way t) q x = absurd (z (syn_option area) role byte way x.0)

  -- a phase that the door is in and that is not Plain
  not_so : (p : Phase) → phase_of d.phase ≡ p → NotPlain p → NotPlain (phase_of d.phase)
  not_so p e z x = z (sym e ∙ x)

  stays : (p : Phase) (q : Ask) → phase_of d.phase ≡ p → NotPlain p → PlainNow d → Gives v q d c
  stays p q e z x = absurd (z (sym e ∙ x.0))

  offering_not : NotPlain offering
  offering_not e = let z : ◌≡◌ {A = ℕ} 0 1 = cc in omega arith

  crossed_not : NotPlain crossed
  crossed_not e = let z : ◌≡◌ {A = ℕ} 0 1 = cc in omega arith

  answering_not : NotPlain answering
  answering_not e = let z : ◌≡◌ {A = ℕ} 0 1 = cc in omega arith

  opened_not : NotPlain opened
  opened_not e = let z : ◌≡◌ {A = ℕ} 0 1 = cc in omega arith

  resting_not : NotPlain idle
  resting_not e = let z : ◌≡◌ {A = ℕ} 0 1 = cc in omega arith

  received_gives : (p : Phase) → phase_of d.phase ≡ p → (syn ack : Bool) (area : List ℕ) → length area ≤ most_area → PlainNow (received d (turn p syn ack) area)
      → Gives v (receive syn ack area) (received d (turn p syn ack) area) c
  unfolding received turn
  received_gives idle e syn ack area s = stays idle (receive syn ack area) e resting_not
  received_gives offering e true true area s = by_judge area true s e opened (λ p role byte way. open_not (judged_door d p role byte way)) _ refl
  received_gives offering e true false area s = by_judge area false s e crossed (λ p role byte way. judged_not d p role byte way) _ refl
  received_gives offering e false ack area s = stays offering (receive false ack area) e offering_not
  received_gives crossed e true true area s = by_first (receive true true area) area refl s (second_reason d area) (second_right d area) (open_door d) (open_not d)
  received_gives crossed e true false area s = stays crossed (receive true false area) e crossed_not
  received_gives crossed e false true area s = by_first (receive false true area) area refl s (presence_reason area) (presence_right area) (open_door d) (open_not d)
  received_gives crossed e false false area s = stays crossed (receive false false area) e crossed_not
  received_gives answering e true true area s = stays answering (receive true true area) e answering_not
  received_gives answering e true false area s = by_first (receive true false area) area refl s (second_reason d area) (second_right d area) d (not_so answering e answering_not)
  received_gives answering e false true area s = by_first (receive false true area) area refl s (presence_reason area) (presence_right area) (open_door d) (open_not d)
  received_gives answering e false false area s = stays answering (receive false false area) e answering_not
  received_gives opened e syn ack area s = stays opened (receive syn ack area) e opened_not
  received_gives unencrypted e syn ack area s = λ x. as_kept e x.1 refl

  -- answer
  answer_gives : (area : List ℕ) (aware mandatory : Bool) (list nonce s : List ℕ) → length area ≤ most_area → (w : a.Answering) → a.answering v mandatory area list ≡ w
      → (answer_with v aware mandatory (syn_option area) nonce s w).reply ≡ plain c → Gives v (answer area aware mandatory list nonce s) (answer_with v aware mandatory (syn_option area) nonce s w).door c
  unfolding answer_with
  answer_gives area aware mandatory list nonce s h (plain_for n) q e =
      let same : n ≡ c = cc in
      by_area area refl h (answering_right v mandatory area list c (q ∙ ap plain_for same)) (ap plain_door same)
  answer_gives area aware mandatory list nonce s h (with m) q e = let z : ◌≡◌ {A = ℕ} 0 1 = cc in absurd (omega arith)

  -- result
  result_plain : (p : Phase) (n : Cause) (x : Reply) → (x ≡ plain c → ⊥) → not (is_open p || is_plain p) ≡ false → cond (is_open p) x (plain n) ≡ plain c → (p ≡ unencrypted) × (n ≡ c)
  result_plain idle n x z t e = absurd (true≢false t)
  result_plain offering n x z t e = absurd (true≢false t)
  result_plain crossed n x z t e = absurd (true≢false t)
  result_plain answering n x z t e = absurd (true≢false t)
  result_plain opened n x z t e = absurd (z e)
  result_plain unencrypted n x z t e = (refl, cc)

  encrypted_not : (role byte : ℕ) (way : Way) (n : ℕ) (secret : List ℕ) → encrypted role byte way n secret ≡ plain c → ⊥
  encrypted_not role byte way n secret e = let z : ◌≡◌ {A = ℕ} 0 1 = cc in omega arith

  result_gives : (s : List ℕ) → (r.result d s).reply ≡ plain c → Gives v (result s) (r.result d s).door c
  unfolding r.result
  result_gives s e =
      let t = said _ d s _ c e in
      let x = result_plain (phase_of d.phase) d.cause _ (encrypted_not _ _ _ _ _) (first_fails (not (is_open (phase_of d.phase) || is_plain (phase_of d.phase))) 4 _ t.0) (sym (ap (λ (y : Outcome). y.reply) t.1) ∙ e) in
      as_kept x.0 x.1 (ap (λ (y : Outcome). y.door) t.1)

  -- a call that never gives one
  never : (t : Option ℕ) (s : List ℕ) (x : Outcome) (q : Ask) → (x.reply ≡ plain c → ⊥) → (unless t d s x).reply ≡ plain c → Gives v q (unless t d s x).door c
  never t s x q z e = let w = said t d s x c e in absurd (z (sym (ap (λ (y : Outcome). y.reply) w.1) ∙ e))

  written_not : (n : ℕ) → written n ≡ plain c → ⊥
  written_not n e = let z : ◌≡◌ {A = ℕ} 0 1 = cc in omega arith

  done_not : done ≡ plain c → ⊥
  done_not e = let z : ◌≡◌ {A = ℕ} 0 1 = cc in omega arith

  holds_not : (n : ℕ) → holds n ≡ plain c → ⊥
  holds_not n e = let z : ◌≡◌ {A = ℕ} 0 1 = cc in omega arith

  -- every cause that a call of a door gives
  pub every_cause : (free : Bool) (q : Ask) → (outcome free v q).reply ≡ plain c → Gives v q (outcome free v q).door c
  unfolding outcome o.offer a.answer r.receive r.resend r.close k.store k.forget k.count
  every_cause free (offer b aware mandatory list resume nonce s) = never _ s _ (offer b aware mandatory list resume nonce s) (written_not _)
  every_cause free (answer area aware mandatory list nonce s) = λ e.
      let t = said _ d s _ c e in
      subst (λ (y : Outcome). Gives v (answer area aware mandatory list nonce s) y.door c) (sym t.1)
      (answer_gives area aware mandatory list nonce s (ltb-false _ _ (first_fails (too_long area) 2 _ t.0)) _ refl (sym (ap (λ (y : Outcome). y.reply) t.1) ∙ e))
  every_cause free (receive syn ack area) = λ e.
      let t = said _ d [] _ c e in
      let now = received d (turn (phase_of d.phase) syn ack) area in
      let x = now_plain (phase_of now.phase) now.cause c (sym (ap (λ (y : Outcome). y.reply) t.1) ∙ e) in
      subst (λ (y : Outcome). Gives v (receive syn ack area) y.door c) (sym t.1)
      (received_gives (phase_of d.phase) refl syn ack area (ltb-false _ _ (first_fails (too_long area) 2 _ t.0)) x)
  every_cause free (resend s) = never _ s _ (resend s) (written_not _)
  every_cause free (result s) = result_gives s
  every_cause free close = λ e. absurd (done_not e)
  every_cause free (store t role identifier secret) = never _ [] _ (store t role identifier secret) done_not
  every_cause free (forget t identifier) = never _ [] _ (forget t identifier) done_not
  every_cause free count = λ e. absurd (holds_not _ e)

-- in Plain, result and receive give the kept cause, as often as they are asked
module _ (d : Door) (in_plain : phase_of d.phase ≡ unencrypted) where
  pub result_again : (s : List ℕ) → r.result d s ≡ record { reply = plain d.cause; buffer = s; door = d; effect = keep }
  unfolding r.result unless refusal
  result_again s = rw in_plain

  pub receive_again : (syn ack : Bool) (area : List ℕ) → too_long area ≡ false → r.receive d syn ack area ≡ record { reply = plain d.cause; buffer = []; door = d; effect = keep }
  unfolding r.receive turn received unless refusal
  receive_again syn ack area fits = rw (in_plain, fits) (rw in_plain)

-- a door that a call leaves in Plain is as it was, or the call gives its cause
module _ (d : Door) where
  abbrev Told : Outcome → Type 0
  Told x = phase_of x.door.phase ≡ unencrypted → (x.door ≡ d) ⊎ (x.reply ≡ plain x.door.cause)

  unless_told : (t : Option ℕ) (s : List ℕ) (x : Outcome) → Told x → Told (unless t d s x)
  unfolding unless
  unless_told none s x f = f
  unless_told (some n) s x f = λ e. inl refl

answer_told : (v : Seen) (aware mandatory : Bool) (p nonce s : List ℕ) (w : a.Answering) → Told v.door (answer_with v aware mandatory p nonce s w)
unfolding answer_with plain_door
answer_told v aware mandatory p nonce s (plain_for n) = λ e. inr refl
answer_told v aware mandatory p nonce s (with m) = λ e. absurd (answered_not _ p mandatory m.tep _ e)

pub plain_is_told : (free : Bool) (v : Seen) (q : Ask) → phase_of (outcome free v q).door.phase ≡ unencrypted
    → ((outcome free v q).door ≡ v.door) ⊎ ((outcome free v q).reply ≡ plain (outcome free v q).door.cause)
unfolding outcome o.offer a.answer r.receive r.resend r.result r.close k.store k.forget k.count
plain_is_told free v (offer b aware mandatory list resume nonce s) = unless_told v.door _ s _ (λ e. absurd (offered_not _ mandatory _ e))
plain_is_told free v (answer area aware mandatory list nonce s) = unless_told v.door _ s _ (answer_told v aware mandatory (syn_option area) nonce s _)
plain_is_told free v (receive syn ack area) =
    let now = received v.door (turn (phase_of v.door.phase) syn ack) area in
    unless_told v.door _ [] _ (λ e. inr (ap (λ (p : Phase). now_says p now.cause) e))
plain_is_told free v (resend s) = unless_told v.door _ s _ (λ e. inl refl)
plain_is_told free v (result s) = unless_told v.door _ s _ (λ e. inl refl)
plain_is_told free v close = λ e. absurd (idle_not e)
plain_is_told free v (store t role identifier secret) = unless_told v.door _ [] _ (λ e. inl refl)
plain_is_told free v (forget t identifier) = unless_told v.door _ [] _ (λ e. inl refl)
plain_is_told free v count = λ e. inl refl
