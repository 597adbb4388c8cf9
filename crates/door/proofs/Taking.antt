-- Which record and which TEP are taken, in terms of lists: an offer's record, an answer's TEP and its record.
use Prim.Native.Nat.{ℕ, suc, ◌≤◌, ◌<◌}
use Rattle.std.proofs.Math.Path.{◌≡◌, refl, sym, ap, ap₂}
use Rattle.std.proofs.Common.{◌∙◌, subst, inl, inr}
use mathlib.Core.List.{List, [], ◌∷◌, ◌++◌, head-eq_of_cons-eq, tail-eq_of_cons-eq}
use Rattle.std.specs.Prelude.{Bool, ◌||◌, ◌⊎◌, ◌↔◌, ltb, get_or}
use Rattle.std.proofs.Math.Bool.{true, false, cond, ◌&&◌, true≢false}
use Rattle.std.proofs.lemmas.Bool.{false≢true}
use Rattle.std.proofs.Math.Option.{Option, none, some}
use native.Mathlib.Omega.{arith}
use borrow.Author.Tests.{eqb-true, eqb-false, eq-eqb, ne_eqb, ltb-true, ltb-false, le-ltb}
use Rattle.std.proofs.Math.Dec.{eqb}
use Rattle.std.proofs.Math.ListN.{length}
use Rattle.wire.specs.Bytes.{same_bytes}
use Rattle.wire.specs.ByteLaws.{same_yes, same_eq}
use Rattle.eno.specs.Area.{syn_option}
use Rattle.eno.specs.Suboption.{Sent, name}
use Rattle.eno.specs.Session.{expected_half, in_hand}
use Rattle.eno.specs.Judge.{is_bad, is_resumption, half_of, named, once, teps_of}
use Rattle.eno.specs.Option.{is_listed}
use Rattle.eno.specs.Laws.Walk.{Every}
use Rattle.eno.proofs.Laws.Asked.{and_true}
use Rattle.eno.specs.declared.SessionRecord.{SessionRecord}
use Rattle.eno.specs.declared.Cause.{Cause}
use Rattle.door.specs.Door.{Seen, hand_of, empty_hand}
use Rattle.door.specs.Record.{first_that, past_end, record_at}
use Rattle.door.specs.Outcome.{Outcome, Effect, keep, remove, written, unless}
use Rattle.door.specs.Offer.{offered_at, offered_door, offer}
use Rattle.door.specs.Answer.{is_candidate, fitting_at, last_that, Choice, or_fresh, choose_tep, chosen_or, reason_or, answer_reason, Answering, plain_for, with, answered_door, answer_with, answering, answer}
use Rattle.door.specs.Calls.{cut, effected, after}
use Rattle.door.proofs.Laws.Choice.{candidate_sent, good_candidate, none_fitting, bad_fitting, fresh_fitting, expected_fitting, no_record, choice_fresh, choice_none}
use Rattle.door.specs.declared.Door.{Door}
use Rattle.door.specs.Taking.{In, Last, Takes, nothing, oldest, Candidate, Fits, Resumable, Answers, resumes, freshly, AnswerTakes}

-- a test tells whether a property holds
record Tells {X : Type 0} (test : X → Bool) (P : X → Type 0) : Type 0 where
  yes_has : (x : X) → test x ≡ true → P x
  no_has_not : (x : X) → test x ≡ false → P x → ⊥

every_fails : {X : Type 0} (test : X → Bool) (P : X → Type 0) → Tells test P → (l : List X) → Every (λ x. test x ≡ false) l → Every (λ x. P x → ⊥) l
every_fails test P d [] e = tt
every_fails test P d (x ∷ l) e = (d.no_has_not x e.0, every_fails test P d l e.1)

all_fail : {X : Type 0} (P : X → Type 0) (l : List X) → ((x : X) → P x → ⊥) → Every (λ x. P x → ⊥) l
all_fail P [] f = tt
all_fail P (x ∷ l) f = (f x, all_fail P l f)

in_every : {X : Type 0} (P : X → Type 0) (l : List X) (x : X) → Every P l → In x l → P x
in_every P [] x e i = absurd i
in_every P (y ∷ l) x e (inl q) = subst P q e.0
in_every P (y ∷ l) x e (inr i) = in_every P l x e.1 i

in_split : {X : Type 0} (before behind : List X) (x : X) → In x (before ++ x ∷ behind)
in_split [] behind x = inl refl
in_split (y ∷ l) behind x = inr (in_split l behind x)

-- where the first that passes a test stands
record Splits (test : SessionRecord → Bool) (l : List SessionRecord) (j : ℕ) : Type 0 where
  before : List SessionRecord
  behind : List SessionRecord
  splits : l ≡ before ++ get_or l j past_end ∷ behind
  rest : cut j l ≡ before ++ behind
  passes : test (get_or l j past_end) ≡ true
  earlier : Every (λ r. test r ≡ false) before

first_splits : (test : SessionRecord → Bool) (l : List SessionRecord) → first_that test l < length l → Splits test l (first_that test l)
unfolding first_that cut
first_splits test [] h = absurd (omega arith)
first_splits test (r ∷ l) h = go (test r) refl h (first_splits test l)
  where
    go : (b : Bool) → test r ≡ b → cond b 0 (suc (first_that test l)) < suc (length l) → (first_that test l < length l → Splits test l (first_that test l))
        → Splits test (r ∷ l) (cond b 0 (suc (first_that test l)))
    go true e h rest = record { before = []; behind = l; splits = refl; rest = refl; passes = e; earlier = tt }
    go false e h rest =
        let s = rest (omega arith) in
        record { before = r ∷ s.before; behind = s.behind; splits = ap (λ m. r ∷ m) s.splits; rest = ap (λ m. r ∷ m) s.rest; passes = s.passes; earlier = (e, s.earlier) }

first_none : (test : SessionRecord → Bool) (l : List SessionRecord) → length l ≤ first_that test l → Every (λ r. test r ≡ false) l
unfolding first_that
first_none test [] h = tt
first_none test (r ∷ l) h = go (test r) refl h (first_none test l)
  where
    go : (b : Bool) → test r ≡ b → suc (length l) ≤ cond b 0 (suc (first_that test l)) → (length l ≤ first_that test l → Every (λ r. test r ≡ false) l) → (test r ≡ false) × Every (λ r. test r ≡ false) l
    go true e h rest = absurd (omega arith)
    go false e h rest = (e, rest (omega arith))

-- the effect of taking the j-th
abbrev taking : ℕ → List SessionRecord → Effect
taking j held = cond (ltb j (length held)) (remove j) keep

module _ (P : SessionRecord → Type 0) (held : List SessionRecord) where
  take_none : (j : ℕ) → length held ≤ j → Every (λ r. P r → ⊥) held → Takes P held (effected (taking j held) held) (record_at held j)
  unfolding effected record_at
  take_none j h e = let q = le-ltb j (length held) h in nothing e (simp q) (simp q)

  take_first : (test : SessionRecord → Bool) → Tells test P → Takes P held (effected (taking (first_that test held) held) held) (record_at held (first_that test held))
  unfolding effected record_at
  take_first test d = go (ltb j (length held)) refl
    where
      j : ℕ
      j = first_that test held

      go : (b : Bool) → ltb j (length held) ≡ b → Takes P held (effected (taking j held) held) (record_at held j)
      go false q = take_none j (ltb-false _ _ q) (every_fails test P d held (first_none test held (ltb-false _ _ q)))
      go true q =
          let s = first_splits test held (ltb-true _ _ q) in
          oldest (get_or held j past_end)
          (record { before = s.before; behind = s.behind; splits = s.splits; has = d.yes_has _ s.passes; none_before = every_fails test P d s.before s.earlier })
          (simp q s.rest) (simp q)

listed_in : (t : ℕ) (l : List ℕ) → is_listed t l ≡ true → In t l
unfolding is_listed
listed_in t [] e = absurd (false≢true e)
listed_in t (x ∷ l) e = go (eqb x t) refl e (listed_in t l)
  where
    go : (b : Bool) → eqb x t ≡ b → b || is_listed t l ≡ true → (is_listed t l ≡ true → In t l) → (x ≡ t) ⊎ In t l
    go true q e rest = inl (eqb-true x t q)
    go false q e rest = inr (rest e)

not_listed : (t : ℕ) (l : List ℕ) → is_listed t l ≡ false → In t l → ⊥
unfolding is_listed
not_listed t [] e i = i
not_listed t (x ∷ l) e i = go (eqb x t) refl e i (not_listed t l)
  where
    go : (b : Bool) → eqb x t ≡ b → b || is_listed t l ≡ false → (x ≡ t) ⊎ In t l → (is_listed t l ≡ false → In t l → ⊥) → ⊥
    go true q e i rest = true≢false e
    go false q e (inl s) rest = eqb-false x t q s
    go false q e (inr i) rest = rest e i

-- a call that wrote is not refused
wrote : (t : Option ℕ) (d : Door) (s : List ℕ) (x : Outcome) (n : ℕ) → (unless t d s x).reply ≡ written n → unless t d s x ≡ x
unfolding unless
wrote none d s x n e = refl
wrote (some m) d s x n e = let z : ◌≡◌ {A = ℕ} 0 1 = cc in absurd (omega arith)

in_hand_lem : (m : Option SessionRecord) → in_hand (hand_of m) ≡ m
unfolding in_hand hand_of empty_hand
in_hand_lem none = refl
in_hand_lem (some r) = refl

-- an offer takes the oldest held record whose TEP is listed, if it is resuming
pub offer_takes : (v : Seen) (b : ℕ) (aware mandatory : Bool) (list : List ℕ) (resume : Bool) (nonce s : List ℕ) (n : ℕ)
    → (offer v b aware mandatory list resume nonce s).reply ≡ written n
    → Takes (λ r. (resume ≡ true) × In r.tep list) v.held (after v (offer v b aware mandatory list resume nonce s)).held (in_hand (offer v b aware mandatory list resume nonce s).door.hand)
unfolding offer offered_door after offered_at
offer_takes v b aware mandatory list resume nonce s n e =
    subst (λ (x : Outcome). Takes P v.held (effected x.effect v.held) (in_hand x.door.hand)) (sym (wrote _ v.door s _ n e))
    (subst (λ m. Takes P v.held (effected (taking (offered_at resume list v.held) v.held) v.held) m) (sym (in_hand_lem _)) (go resume))
  where
    P : SessionRecord → Type 0
    P r = (resume ≡ true) × In r.tep list

    go : (c : Bool) → Takes (λ r. (c ≡ true) × In r.tep list) v.held (effected (taking (offered_at c list v.held) v.held) v.held) (record_at v.held (offered_at c list v.held))
    go true = take_first _ v.held (λ r. is_listed r.tep list) (record { yes_has = λ r q. (refl, listed_in r.tep list q); no_has_not = λ r q p. not_listed r.tep list q p.1 })
    go false = take_none _ v.held (length v.held) (omega arith) (all_fail (λ r. (false ≡ true) × In r.tep list) v.held (λ r p. false≢true p.0))

-- a record is taken exactly when a held one has the property: by an offer, when it is resuming and a held one's TEP is listed
takes_exactly : (P : SessionRecord → Type 0) (held stay : List SessionRecord) (hand : Option SessionRecord) → Takes P held stay hand
    → ((r : SessionRecord) × (hand ≡ some r)) ↔ ((r : SessionRecord) × (In r held × P r))
takes_exactly P held stay hand (nothing e s h) =
    (λ q. let z : none ≡ some q.0 = sym h ∙ q.1 in let y : ◌≡◌ {A = ℕ} 0 1 = cc in absurd (omega arith), λ q. absurd (in_every (λ r. P r → ⊥) held q.0 e q.1.0 q.1.1))
takes_exactly P held stay hand (oldest r f s h) = (λ q. (r, (subst (In r) (sym f.splits) (in_split f.before f.behind r), f.has)), λ q. (r, h))

pub offer_takes_exactly : (v : Seen) (b : ℕ) (aware mandatory : Bool) (list : List ℕ) (resume : Bool) (nonce s : List ℕ) (n : ℕ)
    → (offer v b aware mandatory list resume nonce s).reply ≡ written n
    → ((r : SessionRecord) × (in_hand (offer v b aware mandatory list resume nonce s).door.hand ≡ some r)) ↔ ((r : SessionRecord) × (In r v.held × ((resume ≡ true) × In r.tep list)))
offer_takes_exactly v b aware mandatory list resume nonce s n e =
    takes_exactly (λ r. (resume ≡ true) × In r.tep list) v.held _ _ (offer_takes v b aware mandatory list resume nonce s n e)

-- the TEPs named t, in terms of the list
module _ (t : ℕ) where
  abbrev Other : Sent → Type 0
  Other y = name y ≡ t → ⊥

  record OneNamed (l : List Sent) (x : Sent) : Type 0 where
    before : List Sent
    behind : List Sent
    splits : l ≡ before ++ x ∷ behind
    is_named_lem : name x ≡ t
    once_before : Every Other before
    once_behind : Every Other behind

  named_none : (l : List Sent) → named t l ≡ [] → Every Other l
  unfolding named
  named_none [] e = tt
  named_none (y ∷ l) e = go (eqb (name y) t) refl e (named_none l)
    where
      go : (b : Bool) → eqb (name y) t ≡ b → cond b (y ∷ named t l) (named t l) ≡ [] → (named t l ≡ [] → Every Other l) → Other y × Every Other l
      go true q e rest = let z : ◌≡◌ {A = ℕ} 0 1 = cc in absurd (omega arith)
      go false q e rest = (eqb-false (name y) t q, rest e)

  named_one : (l : List Sent) (x : Sent) → named t l ≡ x ∷ [] → OneNamed l x
  unfolding named
  named_one [] x e = let z : ◌≡◌ {A = ℕ} 0 1 = cc in absurd (omega arith)
  named_one (y ∷ l) x e = go (eqb (name y) t) refl e (named_one l x)
    where
      go : (b : Bool) → eqb (name y) t ≡ b → cond b (y ∷ named t l) (named t l) ≡ x ∷ [] → (named t l ≡ x ∷ [] → OneNamed l x) → OneNamed (y ∷ l) x
      go true q e rest =
          let same : y ≡ x = head-eq_of_cons-eq e in
          let others : named t l ≡ [] = tail-eq_of_cons-eq e in
          record { before = []; behind = l; splits = ap (λ z. z ∷ l) same; is_named_lem = ap name (sym same) ∙ eqb-true (name y) t q; once_before = tt; once_behind = named_none l others }
      go false q e rest =
          let w = rest e in
          record {
            before = y ∷ w.before;
            behind = w.behind;
            splits = ap (λ m. y ∷ m) w.splits;
            is_named_lem = w.is_named_lem;
            once_before = (eqb-false (name y) t q, w.once_before);
            once_behind = w.once_behind;
          }

  others_named : (l m : List Sent) → Every Other l → named t (l ++ m) ≡ named t m
  unfolding named
  others_named [] m e = refl
  others_named (y ∷ l) m e = simp (ne_eqb (name y) t e.0) (others_named l m e.1)

  no_others : (l : List Sent) → Every Other l → named t l ≡ []
  unfolding named
  no_others [] e = refl
  no_others (y ∷ l) e = simp (ne_eqb (name y) t e.0) (no_others l e.1)

  here_named : (x : Sent) (l : List Sent) → name x ≡ t → named t (x ∷ l) ≡ x ∷ named t l
  unfolding named
  here_named x l e = simp (eq-eqb (name x) t e)

once_one : (l : List Sent) (x : Sent) → once l ≡ some x → l ≡ x ∷ []
unfolding once
once_one [] x e = let z : ◌≡◌ {A = ℕ} 0 1 = cc in absurd (omega arith)
once_one (y ∷ []) x e = let same : y ≡ x = cc in ap (λ z. z ∷ []) same
once_one (y ∷ z ∷ l) x e = let z : ◌≡◌ {A = ℕ} 0 1 = cc in absurd (omega arith)

module _ (o : List ℕ) (t : ℕ) where
  sent_candidate : (x : Sent) → once (named t (teps_of o)) ≡ some x → is_bad x ≡ false → Candidate o t
  sent_candidate x e b =
      let w = named_one t (teps_of o) x (once_one _ x e) in
      record { sent = x; before = w.before; behind = w.behind; splits = w.splits; is_named_lem = w.is_named_lem; once_before = w.once_before; once_behind = w.once_behind; not_bad = b }

  candidate_once : (c : Candidate o t) → once (named t (teps_of o)) ≡ some c.sent
  unfolding once
  candidate_once c =
      ap once
      (ap (named t) c.splits
      ∙ (others_named t c.before _ c.once_before ∙ (here_named t c.sent c.behind c.is_named_lem ∙ ap (λ m. c.sent ∷ m) (no_others t c.behind c.once_behind))))

-- the test for a candidate tells
candidate_tells : (o : List ℕ) → Tells (is_candidate o) (Candidate o)
candidate_tells o =
    record {
      yes_has = λ t q. let w = candidate_sent o t q in sent_candidate o t w.sent w.is_once w.not_bad;
      no_has_not = λ t q c. true≢false (sym (good_candidate o t c.sent (candidate_once o t c) c.not_bad) ∙ q);
    }

-- a test that tells whether a record fits, and finds the one that is taken
record FitTest (o : List ℕ) (t : ℕ) : Type 0 where
  test : SessionRecord → Bool
  tells : Tells test (Fits o t)
  finds : (held : List SessionRecord) → fitting_at o t held ≡ first_that test held

never_first : (l : List SessionRecord) → first_that (λ r. false) l ≡ length l
unfolding first_that
never_first [] = refl
never_first (r ∷ l) = ap suc (never_first l)

module _ (o : List ℕ) (t : ℕ) where
  no_fit : ((r : SessionRecord) → Fits o t r → ⊥) → ((held : List SessionRecord) → fitting_at o t held ≡ length held) → FitTest o t
  no_fit f e = record { test = λ r. false; tells = record { yes_has = λ r q. absurd (false≢true q); no_has_not = λ r q. f r }; finds = λ held. e held ∙ sym (never_first held) }

  module _ (x : Sent) (e : once (named t (teps_of o)) ≡ some x) where
    same_sent : (c : Candidate o t) → c.sent ≡ x
    same_sent c = let z : some c.sent ≡ some x = sym (candidate_once o t c) ∙ e in cc

    abbrev expects : SessionRecord → Bool
    expects r = eqb r.tep t && same_bytes (expected_half r) (half_of o x)

    expects_tells : is_bad x ≡ false → is_resumption x ≡ true → Tells expects (Fits o t)
    unfolding sent_candidate
    expects_tells b n =
        record {
          yes_has = λ r q. let w = and_true _ _ q in record { sent = sent_candidate o t x e b; resumption = n; of_tep = eqb-true _ _ w.0; half = same_eq _ _ w.1 };
          no_has_not = λ r q f. true≢false (sym (fits_passes r f) ∙ q);
        }
      where
        fits_passes : (r : SessionRecord) → Fits o t r → expects r ≡ true
        fits_passes r f =
            let h : expected_half r ≡ half_of o x = f.half ∙ ap (half_of o) (same_sent f.sent) in
            ap₂ ◌&&◌ (eq-eqb r.tep t f.of_tep) (ap (same_bytes (expected_half r)) (sym h) ∙ sym (same_yes (expected_half r)))

    by_resumption : is_bad x ≡ false → (b : Bool) → is_resumption x ≡ b → FitTest o t
    by_resumption b true n = record { test = expects; tells = expects_tells b n; finds = λ held. expected_fitting o t held x e b n }
    by_resumption b false n = no_fit (λ r f. true≢false (sym f.resumption ∙ (ap is_resumption (same_sent f.sent) ∙ n))) (λ held. fresh_fitting o t held x e b n)

    by_bad : (b : Bool) → is_bad x ≡ b → FitTest o t
    by_bad true q = no_fit (λ r f. true≢false (sym q ∙ (ap is_bad (sym (same_sent f.sent)) ∙ f.sent.not_bad))) (λ held. bad_fitting o t held x e q)
    by_bad false q = by_resumption q (is_resumption x) refl

  fit_test : FitTest o t
  fit_test = go (once (named t (teps_of o))) refl
    where
      go : (m : Option Sent) → once (named t (teps_of o)) ≡ m → FitTest o t
      go none e = no_fit (λ r f. let z : ◌≡◌ {A = Option Sent} none (some f.sent.sent) = sym e ∙ candidate_once o t f.sent in let y : ◌≡◌ {A = ℕ} 0 1 = cc in omega arith) (λ held. none_fitting o t held e)
      go (some x) e = by_bad x e (is_bad x) refl

  module _ (held : List SessionRecord) where
    -- what is taken for t: the oldest that fits
    fit_takes : Takes (Fits o t) held (effected (taking (fitting_at o t held) held) held) (record_at held (fitting_at o t held))
    fit_takes =
        subst (λ j. Takes (Fits o t) held (effected (taking j held) held) (record_at held j)) (sym (fit_test.finds held)) (take_first (Fits o t) held fit_test.test fit_test.tells)

    resumable : ltb (fitting_at o t held) (length held) ≡ true → Resumable o held t
    resumable q =
        let f = fit_test.finds held in
        let w : fitting_at o t held < length held = ltb-true _ _ q in
        let s = first_splits fit_test.test held (omega arith) in
        let r = get_or held (first_that fit_test.test held) past_end in
        record { fitting = r; is_held_lem = subst (In r) (sym s.splits) (in_split s.before s.behind r); fits = fit_test.tells.yes_has r s.passes }

    not_resumable : ltb (fitting_at o t held) (length held) ≡ false → Resumable o held t → ⊥
    not_resumable q z =
        let f = fit_test.finds held in
        let w : length held ≤ fitting_at o t held = ltb-false _ _ q in
        fit_test.tells.no_has_not z.fitting (in_every (λ r. fit_test.test r ≡ false) held z.fitting (first_none fit_test.test held (omega arith)) z.is_held_lem) z.fits

-- the last that passes a test that tells
module _ (test : ℕ → Bool) (P : ℕ → Type 0) (d : Tells test P) where
  LastOf : (l : List ℕ) → Option ℕ → Type 0
  LastOf l none = Every (λ u. P u → ⊥) l
  LastOf l (some t) = Last P l t

  last_of : (l : List ℕ) → LastOf l (last_that test l)
  unfolding last_that LastOf
  last_of [] = tt
  last_of (t ∷ l) = go (last_that test l) (last_of l)
    where
      here : (b : Bool) → test t ≡ b → Every (λ u. P u → ⊥) l → LastOf (t ∷ l) (cond b (some t) none)
      here true q e = record { before = []; behind = l; splits = refl; has = d.yes_has t q; none_behind = e }
      here false q e = (d.no_has_not t q, e)

      go : (m : Option ℕ) → LastOf l m → LastOf (t ∷ l) (elim m [ some u ↦ some u | none ↦ cond (test t) (some t) none ])
      go none e = here (test t) refl e
      go (some u) w = record { before = t ∷ w.before; behind = w.behind; splits = ap (λ m. t ∷ m) w.splits; has = w.has; none_behind = w.none_behind }

module _ (o list : List ℕ) (held : List SessionRecord) where
  abbrev can_resume : ℕ → Bool
  can_resume t = ltb (fitting_at o t held) (length held)

  -- what a choice takes
  abbrev ChoiceTakes : Choice → Type 0
  ChoiceTakes c = Answers o list held (effected (taking c.at held) held) c.tep (record_at held c.at)

  by_resuming : (t : ℕ) → Last (Resumable o held) list t → ChoiceTakes (record { tep = t; at = fitting_at o t held })
  by_resuming t l = go (fit_takes o t held)
    where
      go : Takes (Fits o t) held (effected (taking (fitting_at o t held) held) held) (record_at held (fitting_at o t held)) → ChoiceTakes (record { tep = t; at = fitting_at o t held })
      go (nothing e s h) = let z = l.has in absurd (in_every (λ r. Fits o t r → ⊥) held z.fitting e z.is_held_lem z.fits)
      go (oldest r f s h) = resumes l r f s h

  by_fresh : Every (λ u. Resumable o held u → ⊥) list → (t : ℕ) → Last (Candidate o) list t → ChoiceTakes (record { tep = t; at = length held })
  unfolding effected
  by_fresh e t l = let h : length held ≤ length held = omega arith in let q = le-ltb (length held) (length held) h in freshly e l (simp q) (no_record held)

  choice_takes : (c : Choice) → choose_tep o list held ≡ some c → ChoiceTakes c
  unfolding choose_tep LastOf
  choice_takes c e = go (last_that can_resume list) (last_of can_resume (Resumable o held) tells list) e
    where
      tells : Tells can_resume (Resumable o held)
      tells = record { yes_has = λ t q. resumable o t held q; no_has_not = λ t q. not_resumable o t held q }

      fresh : Every (λ u. Resumable o held u → ⊥) list → (m : Option ℕ) → last_that (is_candidate o) list ≡ m → LastOf (is_candidate o) (Candidate o) (candidate_tells o) list m → or_fresh o list held none ≡ some c → ChoiceTakes c
      fresh n none q l p =
          let z : ◌≡◌ {A = Option Choice} none (some c) = sym (choice_none o list held q) ∙ p in
          let y : ◌≡◌ {A = ℕ} 0 1 = cc in
          absurd (omega arith)
      fresh n (some t) q l p =
          let z : some (record { tep = t; at = length held }) ≡ some c = sym (choice_fresh o list held t q) ∙ p in
          let y : record { tep = t; at = length held } ≡ c = cc in
          subst ChoiceTakes y (by_fresh n t l)

      go : (m : Option ℕ) → LastOf can_resume (Resumable o held) tells list m → or_fresh o list held m ≡ some c → ChoiceTakes c
      go none n p = fresh n (last_that (is_candidate o) list) refl (last_of (is_candidate o) (Candidate o) (candidate_tells o) list) p
      go (some t) l p = let y : record { tep = t; at = fitting_at o t held } ≡ c = cc in subst ChoiceTakes y (by_resuming t l)

reasoned : (m : Option Cause) (ch : Option Choice) (c : Choice) → reason_or m (chosen_or ch) ≡ with c → ch ≡ some c
reasoned (some n) ch c e = let z : ◌≡◌ {A = ℕ} 0 1 = cc in absurd (omega arith)
reasoned none none c e = let z : ◌≡◌ {A = ℕ} 0 1 = cc in absurd (omega arith)
reasoned none (some d) c e = let same : d ≡ c = cc in ap some same

with_takes : (v : Seen) (area : List ℕ) (aware mandatory : Bool) (list nonce s : List ℕ) (c : Choice) → choose_tep (syn_option area) list v.held ≡ some c
    → AnswerTakes v area aware list nonce s (answer_with v aware mandatory (syn_option area) nonce s (with c))
unfolding answer_with answered_door after
with_takes v area aware mandatory list nonce s c e =
    record { tep = c.tep; hand = record_at v.held c.at; choice = choice_takes (syn_option area) list v.held c e; in_hand_is = in_hand_lem _; writes = refl }

plain_wrote : (v : Seen) (aware mandatory : Bool) (p nonce s : List ℕ) (c : Cause) (n : ℕ) → (answer_with v aware mandatory p nonce s (plain_for c)).reply ≡ written n → ⊥
unfolding answer_with
plain_wrote v aware mandatory p nonce s c n e = let z : ◌≡◌ {A = ℕ} 0 1 = cc in omega arith

-- an answer's choice is the last listed of the TEPs that can be resumed, with the oldest record that fits; else the last listed that A sent once and not bad
pub answer_takes : (v : Seen) (area : List ℕ) (aware mandatory : Bool) (list nonce s : List ℕ) (n : ℕ) → (answer v area aware mandatory list nonce s).reply ≡ written n
    → AnswerTakes v area aware list nonce s (answer v area aware mandatory list nonce s)
unfolding answer answering
answer_takes v area aware mandatory list nonce s n e =
    let q = wrote _ v.door s _ n e in
    subst (AnswerTakes v area aware list nonce s) (sym q) (go (answering v mandatory area list) refl (sym (ap (λ (y : Outcome). y.reply) q) ∙ e))
  where
    go : (a : Answering) → answering v mandatory area list ≡ a → (answer_with v aware mandatory (syn_option area) nonce s a).reply ≡ written n
        → AnswerTakes v area aware list nonce s (answer_with v aware mandatory (syn_option area) nonce s a)
    go (plain_for c) p f = absurd (plain_wrote v aware mandatory (syn_option area) nonce s c n f)
    go (with c) p f = with_takes v area aware mandatory list nonce s c (reasoned (answer_reason mandatory area) _ c p)
