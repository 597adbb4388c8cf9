-- After every list of calls: where a result says resumed and the halves of the record in hand differ, the terms by that result are the record's own role and the nonces that the two options carry.
use Rattle.std.specs.Prelude.{ℕ, ◌+◌, ◌-◌, ◌%◌, ◌≤◌, ◌<◌, ◌≡◌, refl, List, [], ◌∷◌, ◌++◌, Bool, true, false, ◌&&◌, ◌||◌, leb, eqb}
use Rattle.std.proofs.Common.{sym, ◌∙◌, subst, true≢false, arith}
use Rattle.std.proofs.Math.Path.{ap}
use Rattle.std.proofs.Math.Option.{Option, some}
use borrow.Author.Tests.{leb-true, eqb-true, not-false, le-ltb, eq-eqb}
use Rattle.std.proofs.Math.ListN.{length}
use Rattle.wire.specs.Bytes.{part, pasted, same_bytes}
use Rattle.wire.specs.ByteLaws.{part_pasted}
use Rattle.refusals.specs.Rows.{refusal}
use Rattle.eno.specs.declared.SessionRecord.{SessionRecord}
use Rattle.eno.specs.Area.{syn_option}
use Rattle.eno.specs.Tep.{is_known}
use Rattle.eno.specs.Session.{first_half, second_half, in_hand}
use Rattle.eno.specs.Judge.{Way, fresh, resumed, way_if, is_resumed, encrypt, judge}
use Rattle.eno.proofs.Laws.Asked.{and_true}
use Rattle.door.specs.Door.{Phase, idle, offering, crossed, answering, opened, unencrypted, phase_of, transcript_of, Seen}
use Rattle.door.specs.Outcome as o
use Rattle.door.specs.Outcome.{encrypted, done, Outcome}
use Rattle.door.specs.Receive.{is_open}
use Rattle.door.specs.Records as k
use Rattle.door.specs.Records.{is_record}
use Rattle.door.specs.Calls.{result, store, outcome}
use Rattle.door.specs.declared.Door.{Door}
use Rattle.unit.specs.Numbers.{doors_n}
use Rattle.unit.specs.Run.{Call, Told}
use Rattle.unit.proofs.Laws.Calls.{unless_law}
use Rattle.unit.specs.Resumption.{is_open_now}
use Rattle.unit.specs.History.{seen_after, door_after, told_after}
use Rattle.unit.proofs.History.{told_is}
use Rattle.unit.specs.Results.{Names}
use Rattle.unit.proofs.Results.{result_names}
use Rattle.unit.specs.Connections.{Terms, verdict, JudgedBy}
use Rattle.unit.specs.Stories.{is_waiting, Story, resting, sent, waiting, open_as, plain_as}
use Rattle.unit.proofs.Stories.{offered_phase, plain_phase, door_story}
use Rattle.unit.specs.AcceptedStores.{AcceptedStore, OfHand, storing}
use Rattle.unit.proofs.AcceptedStores.{in_hand_was_stored}
use Rattle.key_terms.specs.Terms.{terms}
use Rattle.key_terms.specs.Calls.{given, unless, unfit, resumption_terms}
use Rattle.key_terms_resumed.proofs.Judged.{JudgedSo, judged_so}
use Rattle.key_terms_resumed.proofs.Room.{result_room}
use Rattle.key_terms_resumed.specs.Telling.{nonce_by}
use Rattle.key_terms_resumed.proofs.Telling.{half_then_nonce, by_transcript}
use Rattle.key_terms_resumed.specs.Resumed.{transcript_in, Keyed}

-- the parts of a record that was stored
record Fit (x : SessionRecord) : Type 0 where
  low : x.role ≤ 1
  eighteen : length x.identifier ≡ 18

record_fit : (x : SessionRecord) → is_record x.tep x.role x.identifier x.secret ≡ true → Fit x
unfolding is_record
record_fit x e =
    let a = and_true (is_known x.tep && leb x.role 1 && eqb (length x.identifier) 18) (eqb (length x.secret) 32) e in
    let b = and_true (is_known x.tep && leb x.role 1) (eqb (length x.identifier) 18) a.0 in
    let c = and_true (is_known x.tep) (leb x.role 1) b.0 in
    record { low = leb-true _ _ c.1; eighteen = eqb-true _ _ b.1 }

refused_not : (d : Door) (s : List ℕ) (x : Outcome) (n : ℕ) → (o.unless (some n) d s x).reply ≡ done → ⊥
unfolding o.unless
refused_not d s x n e = let z : ◌≡◌ {A = ℕ} 0 1 = cc in omega arith

stored_fit : (v : Seen) (x : SessionRecord) → (outcome true v (storing x)).reply ≡ done → Fit x
unfolding outcome k.store
stored_fit v x e =
    unless_law (λ (y : Outcome). y.reply ≡ done → Fit x) _ v.door [] _
    (λ n f. absurd (refused_not v.door [] _ n f))
    (λ p f. record_fit x (not-false _ p.0)) e

way_true : (b : Bool) → way_if b ≡ resumed → b ≡ true
way_true true e = refl
way_true false e = let z : ◌≡◌ {A = ℕ} 0 1 = cc in absurd (omega arith)

way_same : (w : Way) (b : Bool) → b ≡ is_resumed w → way_if b ≡ resumed → w ≡ resumed
way_same resumed b e f = refl
way_same fresh b e f = let q : way_if false ≡ resumed = ap way_if (sym e) ∙ f in let z : ◌≡◌ {A = ℕ} 0 1 = cc in absurd (omega arith)

waiting_shut : (q : Phase) → is_waiting q ≡ true → is_open q ≡ false
waiting_shut idle e = refl
waiting_shut offering e = refl
waiting_shut crossed e = refl
waiting_shut answering e = refl
waiting_shut opened e = absurd (true≢false (sym e))
waiting_shut unencrypted e = refl

-- the call is not refused
module _ (role byte : ℕ) (identifier t : List ℕ) (low : role ≤ 1) (known : is_known (byte % 128) ≡ true) (eighteen : length identifier ≡ 18) where
  not_refused : resumption_terms role byte identifier t ≡ given (terms role (byte % 128) identifier t)
  unfolding resumption_terms unfit unless refusal
  not_refused = rw (le-ltb _ _ low, known, eq-eqb _ _ eighteen)

module _ (d : ℕ) (h : d < doors_n) (cs : List Call) (lent : List ℕ) (role byte n : ℕ) (secret : List ℕ) (x : SessionRecord) where
  abbrev at_end : Door
  at_end = door_after d cs

  names : (told_after d cs (result lent)).reply ≡ encrypted role byte resumed n secret → Names at_end lent role byte resumed n secret
  unfolding outcome
  names e = result_names at_end lent role byte resumed n secret (sym (ap (λ (t : Told). t.reply) (told_is d h cs (result lent))) ∙ e)

  fit : in_hand at_end.hand ≡ some x → Fit x
  fit i =
      let a : AcceptedStore d cs x = subst (OfHand (AcceptedStore d cs)) i (in_hand_was_stored d h cs) in
      stored_fit (seen_after d a.before) x (sym (ap (λ (t : Told). t.reply) (told_is d h a.before (storing x))) ∙ a.accepted)

  module _ (e : (told_after d cs (result lent)).reply ≡ encrypted role byte resumed n secret) (i : in_hand (door_after d cs).hand ≡ some x) (differ : same_bytes (first_half x) (second_half x) ≡ false) where
    -- the buffer holds the transcript
    written : transcript_in d cs lent n ≡ transcript_of at_end
    unfolding outcome
    written =
        let told = told_is d h cs (result lent) in
        let room : length (transcript_of at_end) ≤ length lent = result_room at_end lent role byte resumed n secret (sym (ap (λ (t : Told). t.reply) told) ∙ e) in
        ap (λ b. part 0 n b) (ap (λ (t : Told). t.buffer) told ∙ (names e).buffer_is)
        ∙ (ap (λ m. part 0 m (pasted lent 0 (transcript_of at_end))) (sym (names e).length_is) ∙ part_pasted lent 0 (transcript_of at_end) (omega arith))

    open_keyed : (t : Terms) → JudgedBy d cs t → t.hand ≡ some x → verdict t ≡ encrypt role byte resumed (transcript_of at_end) → Keyed d cs lent role byte n x
    open_keyed t y hand v =
        let own : List ℕ = syn_option t.own in
        let peer : List ℕ = syn_option t.area in
        let f = fit i in
        let q : JudgedSo x role byte (transcript_of at_end) own peer =
        judged_so x role byte (transcript_of at_end) t.mandatory t.own t.area (ap (λ (o : Option SessionRecord). judge t.mandatory o t.own t.area) (sym hand) ∙ v) in
        let g = q.options_are in
        record {
          by = t;
          judged_by = y;
          in_hand_lem = hand;
          mine = g.mine;
          theirs = g.theirs;
          nonce = nonce_by own g.mine;
          other = nonce_by peer g.theirs;
          mine_is = g.mine_is;
          theirs_is = g.theirs_is;
          mine_data = half_then_nonce (byte % 128) own g.mine g.own_whole g.own_well g.mine_is g.mine_resumes ∙ ap (λ l. l ++ nonce_by own g.mine) g.mine_half;
          theirs_data = half_then_nonce (byte % 128) peer g.theirs g.peer_whole g.peer_well g.theirs_is g.theirs_resumes ∙ ap (λ l. l ++ nonce_by peer g.theirs) g.theirs_half;
          gives =
              ap (resumption_terms role byte x.identifier) written
              ∙ (not_refused role byte x.identifier (transcript_of at_end) q.role_low g.known f.eighteen
              ∙ ap given (by_transcript x f.low differ own peer byte g role (transcript_of at_end) q.role_low q.transcript_is));
        }

    of_story : Story d cs at_end → Keyed d cs lent role byte n x
    of_story (resting p) = absurd (true≢false (sym (names e).in_open ∙ ap is_open p))
    of_story (sent xs b aware mandatory list resume nonce s option hand w u y l f) =
        absurd (true≢false (sym (names e).in_open ∙ (ap (λ (z : Door). is_open_now z) y ∙ ap is_open (offered_phase option mandatory hand))))
    of_story (waiting t y p q) = absurd (true≢false (sym (names e).in_open ∙ waiting_shut (phase_of at_end.phase) p))
    of_story (plain_as m y p) = absurd (true≢false (sym (names e).in_open ∙ (ap (λ (z : Door). is_open_now z) p ∙ ap is_open (plain_phase m))))
    of_story (open_as t y p held) =
        let s = y.stored in
        let a : y.role ≡ role = sym s.role_is ∙ (names e).role_is in
        let b : y.byte ≡ byte = sym s.byte_is ∙ (names e).byte_is in
        let w : y.way ≡ resumed = way_same y.way at_end.resumed s.way_is (names e).way_is in
        let c : y.transcript ≡ transcript_of at_end = sym s.transcript_is in
        open_keyed t y.by (sym (held (way_true at_end.resumed (names e).way_is)) ∙ i) (y.verdict_is ∙ (λ k. encrypt (a k) (b k) (w k) (c k)))

    -- the terms of a resumed connection
    pub resumed_terms : Keyed d cs lent role byte n x
    resumed_terms = of_story (door_story d h cs)
