-- What an accepted offer or answer writes shows which record it took.
use Rattle.std.specs.Prelude.{ℕ, refl, ◌⊎◌, Bool, true, false, ◌&&◌, ◌||◌, List, [], ◌∷◌, ◌++◌, ltb, eqb, length, take}
use Rattle.std.proofs.Math.Path.{◌≡◌, ap}
use Rattle.std.proofs.Common.{sym, ◌∙◌, subst, inl, inr, true≢false, arith}
use Rattle.std.proofs.Math.Bool.{not}
use Rattle.std.proofs.Math.Option.{Option, none, some}
use borrow.Author.Tests.{eq-eqb, ne_eqb, eqb-true, not-false}
use Rattle.std.proofs.Math.Dec.{leb}
use Rattle.wire.specs.Bytes.{pasted, same_bytes}
use Rattle.wire.specs.ByteLaws.{same_yes, same_eq}
use Rattle.eno.specs.Area.{syn_option}
use Rattle.eno.specs.Tep.{is_known}
use Rattle.eno.specs.Suboption.{Sent, name}
use Rattle.eno.specs.Session.{sent_half, expected_half, in_hand}
use Rattle.eno.specs.Judge.{is_fresh, is_resumption, half_of, teps_of}
use Rattle.eno.specs.Option.{is_listed, is_tep_list, record_listed, offer_fits, answer_fits, offered, answered, encode, encode_all, option_with, resumption_part, wrote, Written, written_as, write_option, write_offer, write_answer}
use Rattle.eno.specs.WrittenValues.{TepsAre, Says, IsWhole}
use Rattle.eno.proofs.WrittenValues.{offer_reads_back, answer_reads_back}
use Rattle.eno.specs.Laws.Walk.{Every}
use Rattle.eno.proofs.Laws.Tep.{known_yes}
use Rattle.eno.specs.Laws.Asked.{IsTep}
use Rattle.eno.proofs.Laws.Asked.{and_true, listed_tep}
use Rattle.eno.specs.declared.SessionRecord.{SessionRecord}
use Rattle.door.specs.Door.{Seen}
use Rattle.door.specs.Record.{first_that, record_at}
use Rattle.door.specs.Outcome.{refused, written, Outcome, unless}
use Rattle.door.specs.Offer as o
use Rattle.door.specs.Offer.{offered_at, offered_door, terms_fit}
use Rattle.door.specs.Answer as a
use Rattle.door.specs.Answer.{answered_door, answer_length, answer_with, plain_for, with}
use Rattle.door.specs.Taking.{In, First, Takes, nothing, oldest, Candidate, Fits, Answers, resumes, freshly}
use Rattle.door.proofs.Taking.{offer_takes, answer_takes}
use Rattle.door.proofs.Laws.Answered.{terms}
use Rattle.door.specs.Calls.{cut}
use Rattle.door.specs.Calls as door
use Rattle.unit.proofs.Resumption.{hand_back}
use Rattle.unit.proofs.Laws.Calls.{unless_law}
use Rattle.unit.specs.AcceptedStores.{OfHand}
use Rattle.unit.specs.Seen.{TakenAsWritten, resumption_in, sent_for, half_for, less_resumed, of_offer, of_answer}
use Rattle.unit.specs.Laws.Shown.{Whole, Shown}

abbrev Known : SessionRecord → Type 0
Known r = is_known r.tep ≡ true

not_resumption : (x : Sent) → is_fresh x ≡ true → is_resumption x ≡ false
unfolding is_resumption
not_resumption x e = rw e

and_no : (b : Bool) → b && false ≡ false
and_no true = refl
and_no false = refl

-- the resumption suboption among what is read back
fresh_none : (l : List Sent) → Every (λ x. is_fresh x ≡ true) l → resumption_in l ≡ none
unfolding resumption_in
fresh_none [] e = refl
fresh_none (x ∷ l) e = rw (not_resumption x e.0, and_no (is_known (name x))) (fresh_none l e.1)

resumption_last : (l : List Sent) (x : Sent) → Every (λ y. is_fresh y ≡ true) l → is_known (name x) ≡ true → is_resumption x ≡ true → resumption_in (l ++ x ∷ []) ≡ some x
unfolding resumption_in
resumption_last [] x e k n = rw (k, n)
resumption_last (y ∷ l) x e k n = rw (not_resumption y e.0, and_no (is_known (name y))) (resumption_last l x e.1 k n)

in_every : {X : Type 0} (P : X → Type 0) (l : List X) (x : X) → Every P l → In x l → P x
in_every P [] x e i = absurd i
in_every P (y ∷ l) x e (inl q) = subst P q e.0
in_every P (y ∷ l) x e (inr i) = in_every P l x e.1 i

in_last : {X : Type 0} (l : List X) (x : X) → In x (l ++ x ∷ [])
in_last [] x = inl refl
in_last (y ∷ l) x = inr (in_last l x)

every_split : {X : Type 0} (P : X → Type 0) (l m : List X) (x : X) → Every P (l ++ x ∷ m) → P x
every_split P [] m x e = e.0
every_split P (y ∷ l) m x e = every_split P l m x e.1

only_last : (l : List Sent) (x y : Sent) → Every (λ z. is_fresh z ≡ true) l → is_resumption y ≡ true → In y (l ++ x ∷ []) → x ≡ y
only_last [] x y e n (inl q) = q
only_last [] x y e n (inr i) = absurd i
only_last (z ∷ l) x y e n (inl q) = absurd (true≢false (sym n ∙ (ap is_resumption (sym q) ∙ not_resumption z e.0)))
only_last (z ∷ l) x y e n (inr i) = only_last l x y e.1 n i

not_some : (r : SessionRecord) → none ≡ some r → ⊥
not_some r e = let z : ◌≡◌ {A = ℕ} 0 1 = cc in omega arith

module _ (p list nonce : List ℕ) where
  taken_as : (hand : Option SessionRecord) → TepsAre p (teps_of p) list hand nonce → OfHand Known hand → TakenAsWritten p hand
  taken_as none t k =
      record {
        exactly = (
          λ q. absurd (not_some q.0 q.1),
          λ q. absurd (true≢false (sym q.1.is_resumption_lem ∙ not_resumption q.0 (in_every (λ x. is_fresh x ≡ true) (teps_of p) q.0 t.are_fresh q.1.among))),
        );
        that_one = λ r x e m. absurd (not_some r e);
      }
  taken_as (some r) t k =
      record {
        exactly =
            (λ q. (t.resumed, record { among = subst (In t.resumed) (sym t.sent_is) (in_last t.others t.resumed); known = ap is_known t.resumed_name ∙ k; is_resumption_lem = t.resumption }), λ q. (r, refl));
        that_one =
            λ s x e m.
            let w : r ≡ s = cc in
            let y : t.resumed ≡ x = only_last t.others t.resumed x t.others_are.are_fresh m.is_resumption_lem (subst (In x) t.sent_is m.among) in
            (ap (λ (z : SessionRecord). z.tep) (sym w) ∙ (sym t.resumed_name ∙ ap name y), ap sent_half (sym w) ∙ (sym t.half ∙ ap (half_of p) y));
      }

  -- and so the host takes the same one from its list
  module _ (fits : ℕ → SessionRecord → Bool) (held : List SessionRecord) where
    less_none : TepsAre p (teps_of p) list none nonce → less_resumed p fits held ≡ held
    unfolding less_resumed
    less_none t = rw (fresh_none (teps_of p) t.are_fresh)

    less_one : (r : SessionRecord) → TepsAre p (teps_of p) list (some r) nonce → Known r
        → less_resumed p fits held ≡ cut (first_that (λ s. eqb s.tep r.tep && (same_bytes (sent_half s) (sent_half r) && fits r.tep s)) held) held
    unfolding less_resumed
    less_one r t k =
        let e : resumption_in (teps_of p) ≡ some t.resumed =
        ap resumption_in t.sent_is ∙ resumption_last t.others t.resumed t.others_are.are_fresh (ap is_known t.resumed_name ∙ k) t.resumption in
        rw (e, t.resumed_name, t.half)

-- the first that has a property, cut out by a test that only such pass
cut_split : (test : SessionRecord → Bool) (before behind : List SessionRecord) (r : SessionRecord) → Every (λ y. test y ≡ false) before → test r ≡ true
    → cut (first_that test (before ++ r ∷ behind)) (before ++ r ∷ behind) ≡ before ++ behind
unfolding first_that cut
cut_split test [] behind r n e = rw e
cut_split test (y ∷ l) behind r n e = rw n.0 (ap (λ (m : List SessionRecord). y ∷ m) (cut_split test l behind r n.1 e))

all_fail : (P : SessionRecord → Type 0) (test : SessionRecord → Bool) → ((s : SessionRecord) → test s ≡ true → P s) → (l : List SessionRecord) → Every (λ y. P y → ⊥) l → Every (λ y. test y ≡ false) l
all_fail P test g [] n = tt
all_fail P test g (y ∷ l) n = (go (test y) refl, all_fail P test g l n.1)
  where
    go : (b : Bool) → test y ≡ b → test y ≡ false
    go true q = absurd (n.0 (g y q))
    go false q = q

first_cut : (P : SessionRecord → Type 0) (test : SessionRecord → Bool) → ((s : SessionRecord) → test s ≡ true → P s) → (held : List SessionRecord) (r : SessionRecord) (f : First P held r) → test r ≡ true
    → cut (first_that test held) held ≡ f.before ++ f.behind
first_cut P test g held r f e =
    ap (λ (l : List SessionRecord). cut (first_that test l) l) f.splits ∙ cut_split test f.before f.behind r (all_fail P test g f.before f.none_before) e

in_listed : (t : ℕ) (l : List ℕ) → In t l → is_listed t l ≡ true
unfolding is_listed
in_listed t [] i = absurd i
in_listed t (x ∷ l) i = go (eqb x t) refl i (in_listed t l)
  where
    go : (b : Bool) → eqb x t ≡ b → (x ≡ t) ⊎ In t l → (In t l → is_listed t l ≡ true) → b || is_listed t l ≡ true
    go true q i rest = refl
    go false q (inl s) rest = absurd (true≢false (sym (eq-eqb x t s) ∙ q))
    go false q (inr i) rest = rest i

known_of : (t : ℕ) → IsTep t → is_known t ≡ true
known_of t i = sym (known_yes t i.0 i.1)

refused_wrote : (m n : ℕ) → refused m ≡ written n → ⊥
refused_wrote m n e = let z : ◌≡◌ {A = ℕ} 0 1 = cc in omega arith

-- an offer
module _ (v : Seen) (b : ℕ) (aware mandatory : Bool) (list : List ℕ) (resume : Bool) (nonce s : List ℕ) (n : ℕ) where
  abbrev hand : Option SessionRecord
  hand = record_at v.held (offered_at resume list v.held)

  abbrev option : List ℕ
  option = option_with (offered b aware list hand nonce)

  record OfferFacts (x : Outcome) : Type 0 where
    fit : leb b 1 && terms_fit aware mandatory list nonce ≡ true
    room : ltb (length s) (length option) ≡ false
    length_is : length option ≡ n
    buffer_is : x.buffer ≡ pasted s 0 option
    hand_is : in_hand x.door.hand ≡ hand

  offer_facts : (o.offer v b aware mandatory list resume nonce s).reply ≡ written n → OfferFacts (o.offer v b aware mandatory list resume nonce s)
  unfolding o.offer unless offered_door
  offer_facts =
      unless_law (λ x. x.reply ≡ written n → OfferFacts x) _ v.door s _ (λ m e. absurd (refused_wrote m n e))
      (λ p e. record { fit = not-false _ p.0; room = p.1.1.0; length_is = cc; buffer_is = refl; hand_is = hand_back hand })

  abbrev Listed : SessionRecord → Type 0
  Listed r = (resume ≡ true) × In r.tep list

  listed_hand : (stay : List SessionRecord) (h : Option SessionRecord) → Takes Listed v.held stay h → record_listed h list ≡ true
  unfolding record_listed
  listed_hand stay h (nothing e q i) = rw i
  listed_hand stay h (oldest r f q i) = rw i (in_listed r.tep list f.has.1)

  whole_hand : (stay : List SessionRecord) (h : Option SessionRecord) → Every Whole v.held → Takes Listed v.held stay h → IsWhole h
  whole_hand stay h w (nothing e q i) = rw i tt
  whole_hand stay h w (oldest r f q i) = rw i (every_split Whole f.before f.behind r (subst (Every Whole) f.splits w))

  known_hand : Every IsTep list → (h : Option SessionRecord) → record_listed h list ≡ true → OfHand Known h
  unfolding record_listed
  known_hand t none l = tt
  known_hand t (some r) l = known_of r.tep (listed_tep r.tep list t l)

  offer_fits_lem : leb b 1 && terms_fit aware mandatory list nonce ≡ true → (h : Option SessionRecord) → record_listed h list ≡ true → offer_fits b list h nonce ≡ true
  unfolding offer_fits terms_fit
  offer_fits_lem e h l =
      let x = and_true (leb b 1) (terms_fit aware mandatory list nonce) e in
      let y = and_true (is_tep_list list && leb (length nonce) 8) (aware || not mandatory) x.1 in
      let z = and_true (is_tep_list list) (leb (length nonce) 8) y.0 in
      simp (x.0, z.0, z.1, l)

  writes : offer_fits b list hand nonce ≡ true → ltb (length s) (length option) ≡ false → write_offer b aware list hand nonce s ≡ written_as (wrote (length option)) (pasted s 0 option)
  unfolding write_offer write_option
  writes f r = rw (f, r)

  stays_as : (p : List ℕ) (stay : List SessionRecord) (h : Option SessionRecord) → Takes Listed v.held stay h → TepsAre p (teps_of p) list h nonce → OfHand Known h → less_resumed p of_offer v.held ≡ stay
  stays_as p stay h (nothing e q i) t k = less_none p list nonce of_offer v.held (subst (λ m. TepsAre p (teps_of p) list m nonce) i t) ∙ sym q
  stays_as p stay h (oldest r f q i) t k =
      less_one p list nonce of_offer v.held r (subst (λ m. TepsAre p (teps_of p) list m nonce) i t) (subst (OfHand Known) i k)
      ∙ (first_cut Listed _ (λ z c. (f.has.0, subst (λ u. In u list) (sym (eqb-true z.tep r.tep (and_true _ _ c).0)) f.has.1)) v.held r f
      (rw (eq-eqb r.tep r.tep refl, sym (same_yes (sent_half r))))
      ∙ sym q)

  pub offer_shown : Every Whole v.held → (o.offer v b aware mandatory list resume nonce s).reply ≡ written n → Shown v of_offer n (o.offer v b aware mandatory list resume nonce s)
  offer_shown w e =
      let x = o.offer v b aware mandatory list resume nonce s in
      let f = offer_facts e in
      let t = subst (Takes Listed v.held (door.after v x).held) f.hand_is (offer_takes v b aware mandatory list resume nonce s n e) in
      let l = listed_hand (door.after v x).held hand t in
      let k = known_hand (terms aware mandatory list nonce (and_true (leb b 1) (terms_fit aware mandatory list nonce) f.fit).1).0 hand l in
      let q = writes (offer_fits_lem f.fit hand l) f.room in
      let back = offer_reads_back b aware list hand nonce s (length option) (whole_hand (door.after v x).held hand w t) (ap (λ (y : Written). y.says) q) in
      let same : take (length option) (write_offer b aware list hand nonce s).buffer ≡ take n x.buffer =
      ap (λ (y : Written). take (length option) y.buffer) q ∙ (ap (take (length option)) (sym f.buffer_is) ∙ ap (λ m. take m x.buffer) f.length_is) in
      let says = subst (λ y. Says (syn_option y) b aware list hand nonce) same back.alone in
      record {
        taken = subst (TakenAsWritten (syn_option (take n x.buffer))) (sym f.hand_is) (taken_as (syn_option (take n x.buffer)) list nonce hand says.teps_are k);
        stay = stays_as (syn_option (take n x.buffer)) (door.after v x).held hand t says.teps_are k;
      }

-- an answer
sent_for_lem : (t : ℕ) (before behind : List Sent) (x : Sent) → Every (λ y. name y ≡ t → ⊥) before → name x ≡ t → sent_for t (before ++ x ∷ behind) ≡ some x
unfolding sent_for
sent_for_lem t [] behind x e n = rw (eq-eqb (name x) t n)
sent_for_lem t (y ∷ l) behind x e n = rw (ne_eqb (name y) t e.0) (sent_for_lem t l behind x e.1 n)

half_for_lem : (p : List ℕ) (t : ℕ) (c : Candidate p t) → half_for p t ≡ half_of p c.sent
unfolding half_for
half_for_lem p t c = rw (ap (sent_for t) c.splits ∙ sent_for_lem t c.before c.behind c.sent c.once_before c.is_named_lem)

same_length : (aware : Bool) (t u : ℕ) (hand : Option SessionRecord) (nonce : List ℕ) → length (option_with (answered aware t hand nonce)) ≡ length (option_with (answered aware u hand nonce))
unfolding option_with answered encode_all encode resumption_part
same_length aware t u none nonce = refl
same_length aware t u (some r) nonce = refl

module _ (v : Seen) (area : List ℕ) (aware mandatory : Bool) (list nonce s : List ℕ) (n : ℕ) where
  abbrev answer_option : ℕ → Option SessionRecord → List ℕ
  answer_option t h = option_with (answered aware t h nonce)

  record AnswerFacts (x : Outcome) : Type 0 where
    tep : ℕ
    hand : Option SessionRecord
    fit : terms_fit aware mandatory list nonce ≡ true
    room : ltb (length s) (length (answer_option tep hand)) ≡ false
    length_is : length (answer_option tep hand) ≡ n
    hand_is : in_hand x.door.hand ≡ hand

  with_facts : terms_fit aware mandatory list nonce ≡ true → (w : a.Answering) → ltb (length s) (answer_length v aware nonce w) ≡ false
      → (answer_with v aware mandatory (syn_option area) nonce s w).reply ≡ written n → AnswerFacts (answer_with v aware mandatory (syn_option area) nonce s w)
  unfolding answer_length answer_with answered_door
  with_facts f (plain_for c) r e = let z : ◌≡◌ {A = ℕ} 0 1 = cc in absurd (omega arith)
  with_facts f (with c) r e =
      record { tep = c.tep; hand = record_at v.held c.at; fit = f; room = r; length_is = cc; hand_is = hand_back (record_at v.held c.at) }

  answer_facts : (a.answer v area aware mandatory list nonce s).reply ≡ written n → AnswerFacts (a.answer v area aware mandatory list nonce s)
  unfolding a.answer unless
  answer_facts =
      unless_law (λ x. x.reply ≡ written n → AnswerFacts x) _ v.door s _ (λ m e. absurd (refused_wrote m n e))
      (λ p e. with_facts (not-false _ p.1.0) (a.answering v mandatory area list) p.1.1.1.0 e)

  module _ (t : ℕ) (h : Option SessionRecord) where
    answer_writes_lem : answer_fits t h nonce ≡ true → ltb (length s) (length (answer_option t h)) ≡ false → write_answer aware t h nonce s ≡ written_as (wrote (length (answer_option t h))) (pasted s 0 (answer_option t h))
    unfolding write_answer write_option
    answer_writes_lem f r = rw (f, r)

    module _ (stay : List SessionRecord) where
      abbrev Answered : Type 0
      Answered = Answers (syn_option area) list v.held stay t h

      tep_known : Every IsTep list → Answered → IsTep t
      tep_known e (resumes l r f q i) = every_split IsTep l.before l.behind t (subst (Every IsTep) l.splits e)
      tep_known e (freshly m l q i) = every_split IsTep l.before l.behind t (subst (Every IsTep) l.splits e)

      of_this : Answered → record_listed h (t ∷ []) ≡ true
      unfolding record_listed is_listed
      of_this (resumes l r f q i) = rw (i, eq-eqb t r.tep (sym f.has.of_tep))
      of_this (freshly m l q i) = rw i

      hand_whole : Every Whole v.held → Answered → IsWhole h
      hand_whole w (resumes l r f q i) = rw i (every_split Whole f.before f.behind r (subst (Every Whole) f.splits w))
      hand_whole w (freshly m l q i) = rw i tt

      hand_known : IsTep t → Answered → OfHand Known h
      hand_known e (resumes l r f q i) = rw i (ap is_known f.has.of_tep ∙ known_of t e)
      hand_known e (freshly m l q i) = rw i tt

      answer_fits_lem : Every IsTep list → leb (length nonce) 8 ≡ true → Answered → answer_fits t h nonce ≡ true
      unfolding answer_fits
      answer_fits_lem e m x = simp (known_of t (tep_known e x), m, of_this x)

      answer_stays : (p : List ℕ) → TepsAre p (teps_of p) (t ∷ []) h nonce → OfHand Known h → Answered → less_resumed p (of_answer area) v.held ≡ stay
      answer_stays p z k (freshly m l q i) = less_none p (t ∷ []) nonce (of_answer area) v.held (subst (λ y. TepsAre p (teps_of p) (t ∷ []) y nonce) i z) ∙ sym q
      answer_stays p z k (resumes l r f q i) =
          less_one p (t ∷ []) nonce (of_answer area) v.held r (subst (λ y. TepsAre p (teps_of p) (t ∷ []) y nonce) i z) (subst (OfHand Known) i k)
          ∙ (first_cut (Fits (syn_option area) t) test passes v.held r f this_passes ∙ sym q)
        where
          theirs : half_for (syn_option area) r.tep ≡ half_of (syn_option area) f.has.sent.sent
          theirs = ap (half_for (syn_option area)) f.has.of_tep ∙ half_for_lem (syn_option area) t f.has.sent

          test : SessionRecord → Bool
          test x = eqb x.tep r.tep && (same_bytes (sent_half x) (sent_half r) && of_answer area r.tep x)

          passes : (x : SessionRecord) → test x ≡ true → Fits (syn_option area) t x
          passes x c =
              let y = and_true (eqb x.tep r.tep) (same_bytes (sent_half x) (sent_half r) && of_answer area r.tep x) c in
              let z = and_true (same_bytes (sent_half x) (sent_half r)) (of_answer area r.tep x) y.1 in
              record {
                sent = f.has.sent;
                resumption = f.has.resumption;
                of_tep = eqb-true x.tep r.tep y.0 ∙ f.has.of_tep;
                half = same_eq (expected_half x) (half_for (syn_option area) r.tep) z.1 ∙ theirs;
              }

          this_passes : test r ≡ true
          this_passes =
              let e : half_for (syn_option area) r.tep ≡ expected_half r = theirs ∙ sym f.has.half in
              rw (eq-eqb r.tep r.tep refl, sym (same_yes (sent_half r)), e, sym (same_yes (expected_half r)))

  pub answer_shown : Every Whole v.held → (a.answer v area aware mandatory list nonce s).reply ≡ written n → Shown v (of_answer area) n (a.answer v area aware mandatory list nonce s)
  answer_shown w e =
      let x = a.answer v area aware mandatory list nonce s in
      let f = answer_facts e in
      let k = answer_takes v area aware mandatory list nonce s n e in
      let t = k.tep in
      let h = k.hand in
      let stay = (door.after v x).held in
      let m = terms aware mandatory list nonce f.fit in
      let i = tep_known t h stay m.0 k.choice in
      let long : length (answer_option f.tep f.hand) ≡ length (answer_option t h) = ap (λ y. length (answer_option f.tep y)) (sym f.hand_is ∙ k.in_hand_is) ∙ same_length aware f.tep t h nonce in
      let q = answer_writes_lem t h (answer_fits_lem t h stay m.0 m.1 k.choice) (subst (λ y. ltb (length s) y ≡ false) long f.room) in
      let back = answer_reads_back aware t h nonce s (length (answer_option t h)) (hand_whole t h stay w k.choice) (ap (λ (y : Written). y.says) q) in
      let same : take (length (answer_option t h)) (write_answer aware t h nonce s).buffer ≡ take n x.buffer =
      ap (λ (y : Written). take (length (answer_option t h)) y.buffer) q ∙ (ap (take (length (answer_option t h))) (sym k.writes) ∙ ap (λ y. take y x.buffer) (sym long ∙ f.length_is)) in
      let says = subst (λ y. Says (syn_option y) 1 aware (t ∷ []) h nonce) same back.alone in
      let known = hand_known t h stay i k.choice in
      record {
        taken = subst (TakenAsWritten (syn_option (take n x.buffer))) (sym k.in_hand_is) (taken_as (syn_option (take n x.buffer)) (t ∷ []) nonce h says.teps_are known);
        stay = answer_stays t h stay (syn_option (take n x.buffer)) says.teps_are known k.choice;
      }
