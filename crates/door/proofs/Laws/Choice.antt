-- What an answer's choice is: a listed TEP that A sent once and not bad, and the record that is resumed with it, if any.
use Prim.Native.Nat.{ℕ, zero, suc, ◌≤◌, ◌<◌}
use Rattle.std.specs.Prelude.{◌≡◌, List, [], ◌∷◌, true, false, cond, ◌&&◌, ◌||◌, eqb, length, get_or}
use Rattle.std.proofs.Math.Path.{refl}
use Rattle.std.proofs.Common.{sym, ◌∙◌, subst, true≢false, arith, eqb-true, ltb-true, lt-ltb, le-ltb, eq-eqb}
use Rattle.std.proofs.Math.Bool.{Bool}
use Rattle.std.proofs.Math.Option.{Option, none, some}
use Rattle.std.proofs.Math.Dec.{ltb}
use Rattle.wire.specs.Bytes.{same_bytes}
use Rattle.eno.specs.Suboption.{Sent}
use Rattle.eno.specs.Session.{expected_half}
use Rattle.eno.specs.Judge.{is_bad, is_resumption, half_of, named, once, teps_of}
use Rattle.eno.specs.Option.{is_listed}
use Rattle.eno.specs.Laws.Walk.{Every}
use Rattle.eno.proofs.Laws.Asked.{and_true}
use Rattle.eno.specs.declared.SessionRecord.{SessionRecord}
use Rattle.door.specs.Record.{first_that, past_end, record_at}
use Rattle.door.specs.Answer.{is_candidate, candidate, fitting_at, last_that, Choice, or_fresh, choose_tep}
use Rattle.door.specs.Laws.Choice.{SentWell, Chosen, freshly, resuming}

-- the first that passes a test passes it
pub first_passes : (test : SessionRecord → Bool) (l : List SessionRecord) → first_that test l < length l → test (get_or l (first_that test l) past_end) ≡ true
unfolding first_that
first_passes test [] h = absurd (omega arith)
first_passes test (r ∷ l) h = go (test r) refl h (first_passes test l)
  where
    go : (b : Bool) → test r ≡ b → cond b 0 (suc (first_that test l)) < suc (length l)
        → (first_that test l < length l → test (get_or l (first_that test l) past_end) ≡ true)
        → test (get_or (r ∷ l) (cond b 0 (suc (first_that test l))) past_end) ≡ true
    go true e h rest = e
    go false e h rest = rest (omega arith)

-- what holds of every record holds of the one at a place
pub every_at : (P : SessionRecord → Type 0) (l : List SessionRecord) (i : ℕ) → Every P l → i < length l → P (get_or l i past_end)
every_at P [] i e h = absurd (omega arith)
every_at P (r ∷ l) zero e h = e.0
every_at P (r ∷ l) (suc i) e h = every_at P l i e.1 (omega arith)

module _ (test : ℕ → Bool) (t : ℕ) (l : List ℕ) where
  last_later : (u : ℕ) → last_that test l ≡ some u → last_that test (t ∷ l) ≡ some u
  unfolding last_that
  last_later u e = rw (last_that, e)

  last_here : last_that test l ≡ none → last_that test (t ∷ l) ≡ cond (test t) (some t) none
  unfolding last_that
  last_here e = rw (last_that, e)

listed_later : (x t : ℕ) (l : List ℕ) → is_listed t l ≡ true → is_listed t (x ∷ l) ≡ true
unfolding is_listed
listed_later x t l e = go (eqb x t)
  where
    go : (b : Bool) → b || is_listed t l ≡ true
    go true = refl
    go false = e

pub listed_here : (t : ℕ) (l : List ℕ) → is_listed t (t ∷ l) ≡ true
unfolding is_listed
listed_here t l = simp (eq-eqb t t refl)

-- the last that passes a test passes it and is listed
pub last_passes : (test : ℕ → Bool) (l : List ℕ) (u : ℕ) → last_that test l ≡ some u → (test u ≡ true) × (is_listed u l ≡ true)
unfolding last_that
last_passes test [] u e = let z : ◌≡◌ {A = ℕ} 0 1 = cc in absurd (omega arith)
last_passes test (t ∷ l) u e = go (last_that test l) refl (λ v. last_passes test l v)
  where
    here : (b : Bool) → test t ≡ b → cond b (some t) none ≡ some u → (test u ≡ true) × (is_listed u (t ∷ l) ≡ true)
    here true q p = let w : t ≡ u = cc in subst (λ v. (test v ≡ true) × (is_listed v (t ∷ l) ≡ true)) w (q, listed_here t l)
    here false q p = let z : ◌≡◌ {A = ℕ} 0 1 = cc in absurd (omega arith)

    go : (m : Option ℕ) → last_that test l ≡ m → ((v : ℕ) → last_that test l ≡ some v → (test v ≡ true) × (is_listed v l ≡ true)) → (test u ≡ true) × (is_listed u (t ∷ l) ≡ true)
    go (some v) q rest =
        let p : some v ≡ some u = sym (last_later test t l v q) ∙ e in
        let w : v ≡ u = cc in
        let h = rest u (q ∙ p) in
        (h.0, listed_later t u l h.1)
    go none q rest = here (test t) refl (sym (last_here test t l q) ∙ e)

module _ (o : List ℕ) (t : ℕ) where
  none_candidate : once (named t (teps_of o)) ≡ none → is_candidate o t ≡ false
  unfolding is_candidate candidate
  none_candidate e = rw e

  bad_candidate : (x : Sent) → once (named t (teps_of o)) ≡ some x → is_bad x ≡ true → is_candidate o t ≡ false
  unfolding is_candidate candidate
  bad_candidate x e b = rw (e, b)

  pub good_candidate : (x : Sent) → once (named t (teps_of o)) ≡ some x → is_bad x ≡ false → is_candidate o t ≡ true
  unfolding is_candidate candidate
  good_candidate x e b = rw (e, b)

  pub candidate_sent : is_candidate o t ≡ true → SentWell o t
  candidate_sent c = go (once (named t (teps_of o))) refl
    where
      one : (x : Sent) → once (named t (teps_of o)) ≡ some x → (b : Bool) → is_bad x ≡ b → SentWell o t
      one x e true q = absurd (true≢false (sym c ∙ bad_candidate x e q))
      one x e false q = record { sent = x; is_once = e; not_bad = q }

      go : (m : Option Sent) → once (named t (teps_of o)) ≡ m → SentWell o t
      go none e = absurd (true≢false (sym c ∙ none_candidate e))
      go (some x) e = one x e (is_bad x) refl

  module _ (held : List SessionRecord) where
    pub none_fitting : once (named t (teps_of o)) ≡ none → fitting_at o t held ≡ length held
    unfolding fitting_at candidate
    none_fitting e = rw e

    module _ (x : Sent) (e : once (named t (teps_of o)) ≡ some x) where
      pub bad_fitting : is_bad x ≡ true → fitting_at o t held ≡ length held
      unfolding fitting_at candidate
      bad_fitting b = rw (e, b)

      pub fresh_fitting : is_bad x ≡ false → is_resumption x ≡ false → fitting_at o t held ≡ length held
      unfolding fitting_at candidate
      fresh_fitting b n = rw (e, b, n)

      pub expected_fitting : is_bad x ≡ false → is_resumption x ≡ true
          → fitting_at o t held ≡ first_that (λ r. eqb r.tep t && same_bytes (expected_half r) (half_of o x)) held
      unfolding fitting_at candidate
      expected_fitting b n = rw (e, b, n)

    -- a record fits the TEP t: A sent resumption of t with the half that the record expects
    pub record Fitting : Type 0 where
      pub well : SentWell o t
      pub resumption : is_resumption well.sent ≡ true
      pub within : fitting_at o t held < length held
      pub fits : (eqb (get_or held (fitting_at o t held) past_end).tep t ≡ true)
          × (same_bytes (expected_half (get_or held (fitting_at o t held) past_end)) (half_of o well.sent) ≡ true)

    pub fitting : fitting_at o t held < length held → Fitting
    fitting h = go (once (named t (teps_of o))) refl
      where
        three : (x : Sent) → once (named t (teps_of o)) ≡ some x → is_bad x ≡ false → (b : Bool) → is_resumption x ≡ b → Fitting
        three x e n false q = let z = fresh_fitting x e n q in absurd (omega arith)
        three x e n true q =
            let z = expected_fitting x e n q in
            let T : SessionRecord → Bool = λ r. eqb r.tep t && same_bytes (expected_half r) (half_of o x) in
            let p = subst (λ k. T (get_or held k past_end) ≡ true) (sym z) (first_passes T held (omega arith)) in
            record { well = record { sent = x; is_once = e; not_bad = n }; resumption = q; within = h; fits = and_true _ _ p }

        two : (x : Sent) → once (named t (teps_of o)) ≡ some x → (b : Bool) → is_bad x ≡ b → Fitting
        two x e true q = let z = bad_fitting x e q in absurd (omega arith)
        two x e false q = three x e q (is_resumption x) refl

        go : (m : Option Sent) → once (named t (teps_of o)) ≡ m → Fitting
        go none e = let z = none_fitting e in absurd (omega arith)
        go (some x) e = two x e (is_bad x) refl

pub no_record : (l : List SessionRecord) → record_at l (length l) ≡ none
unfolding record_at
no_record l = let h : length l ≤ length l = omega arith in simp (le-ltb _ _ h)

pub a_record : (l : List SessionRecord) (j : ℕ) → j < length l → record_at l j ≡ some (get_or l j past_end)
unfolding record_at
a_record l j h = simp (lt-ltb _ _ h)

module _ (o list : List ℕ) (held : List SessionRecord) where
  pub choice_fresh : (t : ℕ) → last_that (is_candidate o) list ≡ some t → or_fresh o list held none ≡ some (record { tep = t; at = length held })
  choice_fresh t e = rw (e, or_fresh)

  pub choice_none : last_that (is_candidate o) list ≡ none → or_fresh o list held none ≡ none
  choice_none e = rw (e, or_fresh)

  pub chosen : (c : Choice) → choose_tep o list held ≡ some c → Chosen o list held c
  unfolding choose_tep
  chosen c e = go (last_that test list) refl e
    where
      test : ℕ → Bool
      test t = ltb (fitting_at o t held) (length held)

      fresh : (m : Option ℕ) → last_that (is_candidate o) list ≡ m → or_fresh o list held none ≡ some c → Chosen o list held c
      fresh none q p =
          let z : ◌≡◌ {A = Option Choice} none (some c) = sym (choice_none q) ∙ p in
          let y : ◌≡◌ {A = ℕ} 0 1 = cc in
          absurd (omega arith)
      fresh (some t) q p =
          let z : some (record { tep = t; at = length held }) ≡ some c = sym (choice_fresh t q) ∙ p in
          let y : record { tep = t; at = length held } ≡ c = cc in
          let h = last_passes (is_candidate o) list t q in
          subst (Chosen o list held) y (freshly h.1 (candidate_sent o t h.0) (no_record held))

      go : (m : Option ℕ) → last_that test list ≡ m → or_fresh o list held m ≡ some c → Chosen o list held c
      go none q p = fresh (last_that (is_candidate o) list) refl p
      go (some t) q p =
          let y : record { tep = t; at = fitting_at o t held } ≡ c = cc in
          let h = last_passes test list t q in
          let f = fitting o t held (ltb-true _ _ h.0) in
          let j = fitting_at o t held in
          subst (Chosen o list held) y
          (resuming h.1 f.well f.resumption f.within (get_or held j past_end) refl (a_record held j f.within) (eqb-true _ _ f.fits.0) f.fits.1)

-- where none is the last that passes a test, no listed one passes it
pub last_none : (test : ℕ → Bool) (l : List ℕ) → last_that test l ≡ none → (u : ℕ) → is_listed u l ≡ true → test u ≡ false
unfolding is_listed
last_none test [] e u h = absurd (true≢false (sym h))
last_none test (t ∷ l) e u h = go (last_that test l) refl (λ q. last_none test l q u)
  where
    here : (b : Bool) → test t ≡ b → cond b (some t) none ≡ none → test t ≡ false
    here true q p = let z : ◌≡◌ {A = ℕ} 0 1 = cc in absurd (omega arith)
    here false q p = q

    which : (b : Bool) → eqb t u ≡ b → b || is_listed u l ≡ true → test t ≡ false → (is_listed u l ≡ true → test u ≡ false) → test u ≡ false
    which true q k f rest = subst (λ x. test x ≡ false) (eqb-true t u q) f
    which false q k f rest = rest k

    go : (m : Option ℕ) → last_that test l ≡ m → (last_that test l ≡ none → is_listed u l ≡ true → test u ≡ false) → test u ≡ false
    go (some v) q rest = let p : some v ≡ none = sym (last_later test t l v q) ∙ e in let z : ◌≡◌ {A = ℕ} 0 1 = cc in absurd (omega arith)
    go none q rest = which (eqb t u) refl h (here (test t) refl (sym (last_here test t l q) ∙ e)) (rest q)

-- no choice: no listed TEP is a candidate
pub none_chosen : (o list : List ℕ) (held : List SessionRecord) → choose_tep o list held ≡ none → (t : ℕ) → is_listed t list ≡ true → is_candidate o t ≡ false
unfolding choose_tep
none_chosen o list held e = go (last_that (λ t. ltb (fitting_at o t held) (length held)) list) e
  where
    fresh : (m : Option ℕ) → last_that (is_candidate o) list ≡ m → or_fresh o list held none ≡ none → (t : ℕ) → is_listed t list ≡ true → is_candidate o t ≡ false
    fresh none q p = last_none (is_candidate o) list q
    fresh (some t) q p =
        let y : ◌≡◌ {A = Option Choice} (some (record { tep = t; at = length held })) none = sym (choice_fresh o list held t q) ∙ p in
        let z : ◌≡◌ {A = ℕ} 0 1 = cc in
        absurd (omega arith)

    go : (m : Option ℕ) → or_fresh o list held m ≡ none → (t : ℕ) → is_listed t list ≡ true → is_candidate o t ≡ false
    go none p = fresh (last_that (is_candidate o) list) refl p
    go (some t) p = let z : ◌≡◌ {A = ℕ} 0 1 = cc in absurd (omega arith)
