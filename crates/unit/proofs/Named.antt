-- Demand 2, for lists of calls: what a result names is what the judge says of the option that this door wrote and the SYN that it received; a reason is the judge's, answer's, a second SYN's or a non-SYN's.
use Rattle.std.specs.Prelude.{◌≡◌, refl, true, false, List, ℕ, ◌<◌}
use Rattle.std.proofs.Math.Path.{sym, ap, subst}
use Rattle.std.proofs.Common.{◌∙◌, true≢false}
use Rattle.eno.specs.declared.Cause.{Cause}
use Rattle.wire.specs.Bytes.{pasted}
use Rattle.eno.specs.Session.{in_hand}
use Rattle.eno.specs.Judge.{Way, fresh, resumed, way_if, is_resumed, encrypt}
use Rattle.door.specs.Door.{Phase, idle, offering, crossed, answering, opened, unencrypted, phase_of, transcript_of}
use Rattle.door.specs.Outcome.{Reply, plain, encrypted}
use Rattle.door.specs.Answer.{plain_door}
use Rattle.door.specs.Receive as r
use Rattle.door.specs.Receive.{is_open, is_plain}
use Rattle.door.specs.Calls.{result, outcome}
use Rattle.door.specs.declared.Door.{Door}
use Rattle.unit.specs.Numbers.{doors_n}
use Rattle.unit.specs.Run.{Call, Told}
use Rattle.unit.specs.Resumption.{is_open_now}
use Rattle.unit.specs.History.{door_after, told_after}
use Rattle.unit.proofs.History.{told_is}
use Rattle.unit.specs.Results.{Names}
use Rattle.unit.proofs.Results.{result_names, result_plain, resumed_by_record, resumed_secret, fresh_secret}
use Rattle.unit.specs.Connections.{Terms, verdict, PlainFor}
use Rattle.unit.specs.Stories.{is_waiting, Story, resting, sent, waiting, open_as, plain_as}
use Rattle.unit.proofs.Stories.{offered_phase, plain_phase, door_story}
use Rattle.unit.specs.Named.{Keys, Named}

-- an open door holds a verdict, a plain one has its reason
way_same : (w : Way) → way_if (is_resumed w) ≡ w
way_same fresh = refl
way_same resumed = refl

waiting_not : (q : Phase) → is_waiting q ≡ true → (is_open q ≡ false) × (is_plain q ≡ false)
waiting_not idle e = (refl, refl)
waiting_not offering e = (refl, refl)
waiting_not crossed e = (refl, refl)
waiting_not answering e = (refl, refl)
waiting_not opened e = absurd (true≢false (sym e))
waiting_not unencrypted e = absurd (true≢false (sym e))

module _ (d : ℕ) (h : d < doors_n) (cs : List Call) (lent : List ℕ) where
  abbrev at_end : Door
  at_end = door_after d cs

  reply_is : (x : Reply) → (told_after d cs (result lent)).reply ≡ x → (r.result at_end lent).reply ≡ x
  unfolding outcome
  reply_is x e = sym (ap (λ (t : Told). t.reply) (told_is d h cs (result lent))) ∙ e

  buffer_as : (w : List ℕ) → (r.result at_end lent).buffer ≡ w → (told_after d cs (result lent)).buffer ≡ w
  unfolding outcome
  buffer_as w e = ap (λ (t : Told). t.buffer) (told_is d h cs (result lent)) ∙ e

  module _ (role byte : ℕ) (way : Way) (n : ℕ) (secret : List ℕ) (x : Names (door_after d cs) lent role byte way n secret) where
    keys : (t : Terms) → verdict t ≡ encrypt role byte way (transcript_of at_end) → (w : Way) → way ≡ w → (at_end.resumed ≡ true → in_hand at_end.hand ≡ t.hand)
        → is_resumed w ≡ at_end.resumed → Keys w t.hand secret
    keys t e fresh q i b = sym x.secret_is ∙ fresh_secret at_end (sym b)
    keys t e resumed q i b =
        let y = resumed_by_record t.mandatory t.hand t.own t.area role byte way (transcript_of at_end) e (ap is_resumed q) in
        (y.0, y.1, sym x.secret_is ∙ resumed_secret at_end y.0 (sym b) (i (sym b) ∙ y.1))

    open_named : Story d cs at_end → Named d cs lent role byte way n secret
    open_named (resting p) = absurd (true≢false (sym x.in_open ∙ ap is_open p))
    open_named (sent xs b aware mandatory list resume nonce s option hand w u y l f) =
        absurd (true≢false (sym x.in_open ∙ (ap (λ (z : Door). is_open_now z) y ∙ ap is_open (offered_phase option mandatory hand))))
    open_named (waiting t y p i) = absurd (true≢false (sym x.in_open ∙ (waiting_not (phase_of at_end.phase) p).0))
    open_named (plain_as m y p) = absurd (true≢false (sym x.in_open ∙ (ap (λ (z : Door). is_open_now z) p ∙ ap is_open (plain_phase m))))
    open_named (open_as t y p i) =
        let s = y.stored in
        let a : y.role ≡ role = sym s.role_is ∙ x.role_is in
        let b : y.byte ≡ byte = sym s.byte_is ∙ x.byte_is in
        let w : y.way ≡ way = sym (way_same y.way) ∙ (ap way_if (sym s.way_is) ∙ x.way_is) in
        let c : y.transcript ≡ transcript_of at_end = sym s.transcript_is in
        let e : verdict t ≡ encrypt role byte way (transcript_of at_end) = y.verdict_is ∙ (λ k. encrypt (a k) (b k) (w k) (c k)) in
        record {
          terms = t;
          by = y.by;
          transcript = transcript_of at_end;
          verdict_is = e;
          length_is = sym x.length_is;
          buffer_is = buffer_as (pasted lent 0 (transcript_of at_end)) x.buffer_is;
          secret_is = keys t e way refl i (ap is_resumed (sym w) ∙ sym s.way_is);
        }

  -- what a result names is what the judge says of what was sent and received
  pub result_is_judged : (role byte : ℕ) (way : Way) (n : ℕ) (secret : List ℕ) → (told_after d cs (result lent)).reply ≡ encrypted role byte way n secret → Named d cs lent role byte way n secret
  result_is_judged role byte way n secret e =
      open_named role byte way n secret (result_names at_end lent role byte way n secret (reply_is (encrypted role byte way n secret) e)) (door_story d h cs)

  plain_named : (n : Cause) → (is_plain (phase_of at_end.phase) ≡ true) × (at_end.cause ≡ n) → Story d cs at_end → PlainFor d cs n
  unfolding plain_door
  plain_named n x (resting p) = absurd (true≢false (sym x.0 ∙ ap is_plain p))
  plain_named n x (sent xs b aware mandatory list resume nonce s option hand w u y l f) =
      absurd (true≢false (sym x.0 ∙ (ap (λ (z : Door). is_plain (phase_of z.phase)) y ∙ ap is_plain (offered_phase option mandatory hand))))
  plain_named n x (waiting t y p i) = absurd (true≢false (sym x.0 ∙ (waiting_not (phase_of at_end.phase) p).1))
  plain_named n x (open_as t y p i) = absurd (true≢false (sym x.0 ∙ ap is_plain p))
  plain_named n x (plain_as m y p) = subst (PlainFor d cs) (sym (ap (λ (z : Door). z.cause) p) ∙ x.1) y

  -- and a reason is that of the judge, of an answer, of a second SYN or of a non-SYN; nothing is written
  pub reason_is_judged : (n : Cause) → (told_after d cs (result lent)).reply ≡ plain n → PlainFor d cs n × ((told_after d cs (result lent)).buffer ≡ lent)
  reason_is_judged n e =
      let x = result_plain at_end lent n (reply_is (plain n) e) in
      (plain_named n (x.0, x.1) (door_story d h cs), buffer_as lent x.2)
