-- The last valid TEP of a list is the valid one with the largest start. Assumes nothing.
use Prim.Native.Nat.{ℕ, zero, suc, ◌+◌, ◌-◌, ◌≤◌, ◌<◌}
use Rattle.std.specs.Prelude.{◌≡◌, Bool, cond, ◌⊎◌, ltb}
use Rattle.std.proofs.Math.Path.{refl, ap, ap₂, subst}
use Rattle.std.proofs.Common.{sym, ◌∙◌, true≢false, inl, inr, lt-ltb, le-ltb}
use mathlib.Core.List.{List, [], ◌∷◌}
use Rattle.std.proofs.Math.Bool.{true, false}
use Rattle.std.proofs.lemmas.Bool.{false≢true}
use Rattle.std.proofs.Math.Option.{Option, none, some}
use Rattle.std.proofs.Math.Logic.{⊎_elim}
use native.Mathlib.Omega.{arith}
use Rattle.std.proofs.Math.Decide.{dec_lt, ℕ_discrete}
use Rattle.eno.specs.Suboption.{Sent, name}
use Rattle.eno.specs.Judge.{Way, fresh, resumed, way_if, is_resumed, Negotiated, negotiated_by, or_else, last_valid}
use Rattle.eno.specs.Laws.Teps.{In, Ordered}
use Rattle.eno.proofs.Laws.Teps.{ordered_in}
use Rattle.valid_tep.specs.Best.{found_at, none_yet, is_later, resumed_by, better_of, best_from, is_found, start_of, resumed_of}
use Rattle.valid_tep.specs.declared.Best.{Best}
use Rattle.std.specs.Prelude as code

abbrev chosen_as : Sent → Way → Option Negotiated
chosen_as x w = some (record { byte = x.byte; way = w })

module _ (valid : ℕ → Option Way) where
  abbrev Valid : ℕ → Type 0
  Valid t = valid t ≡ none → ⊥

  valid_or_not : (t : ℕ) → (valid t ≡ none) ⊎ ((w : Way) × (valid t ≡ some w))
  valid_or_not t = go (valid t) refl
    where
      go : (o : Option Way) → valid t ≡ o → (valid t ≡ none) ⊎ ((w : Way) × (valid t ≡ some w))
      go none e = inl e
      go (some w) e = inr (w, e)

  is_valid_lem : (t : ℕ) (w : Way) → valid t ≡ some w → Valid t
  is_valid_lem t w e n = let z : ◌≡◌ {A = ℕ} 0 1 = cc in omega arith

  last_none : (l : List Sent) → ((x : Sent) → In x l → valid (name x) ≡ none) → last_valid valid l ≡ none
  unfolding last_valid
  last_none [] h = refl
  last_none (y ∷ l) h = ap₂ (λ r v. or_else r (negotiated_by y v)) (last_none l (λ x i. h x (inr i))) (h y (inl refl))

  last_some : (l : List Sent) (i : ℕ) → Ordered i l → (x : Sent) (w : Way) → In x l → valid (name x) ≡ some w
      → ((y : Sent) → In y l → Valid (name y) → y.start ≤ x.start) → last_valid valid l ≡ chosen_as x w
  unfolding last_valid
  last_some [] i o x w p v most = absurd p
  last_some (y ∷ l) i o x w p v most = ⊎_elim here (λ q. later (last_some l y.start o.1 x w q v (λ z r. most z (inr r)))) p
    where
      later : last_valid valid l ≡ chosen_as x w → last_valid valid (y ∷ l) ≡ chosen_as x w
      later e = ap (λ r. or_else r (negotiated_by y (valid (name y)))) e

      here : x ≡ y → last_valid valid (y ∷ l) ≡ chosen_as x w
      here e =
          let s : x.start ≡ y.start = ap (λ (z : Sent). z.start) e in
          let behind : (z : Sent) → In z l → valid (name z) ≡ none = λ z r.
          ⊎_elim (λ n. n) (λ v'. let a = most z (inr r) (is_valid_lem (name z) v'.0 v'.1) in let b = ordered_in y.start l o.1 z r in absurd (omega arith)) (valid_or_not (name z)) in
          let n : valid (name y) ≡ some w = ap (λ (z : Sent). valid (name z)) (sym e) ∙ v in
          ap₂ (λ r u. or_else r (negotiated_by y u)) (last_none l behind) n ∙ ap (λ (z : Sent). chosen_as z w) (sym e)

  -- each valid TEP stands once in the list l, and its start is known
  pub record Stands (start : ℕ → ℕ) (l : List Sent) (t : ℕ) : Type 0 where
    pub this : Sent
    pub there : In this l
    pub named : name this ≡ t
    pub starts : start t ≡ this.start
    pub alone : (y : Sent) → In y l → name y ≡ t → y ≡ this

  module _ (start : ℕ → ℕ) (l : List Sent) (stands : (t : ℕ) → Valid t → Stands start l t) where
    -- the best of the TEPs from 21 on, n of them
    record Among (n : ℕ) (best : code.Option Best) : Type 0 where
      none_found : is_found best ≡ false → (j : ℕ) → j < n → valid (0x21 + j) ≡ none
      this_found : is_found best ≡ true → (x : Sent) × In x l × (valid (name x) ≡ some (way_if (resumed_of best))) × (x.start ≡ start_of best)
      largest : is_found best ≡ true → (j : ℕ) → j < n → (y : Sent) → In y l → name y ≡ 0x21 + j → Valid (name y) → y.start ≤ start_of best

    way_back : (w : Way) → way_if (is_resumed w) ≡ w
    way_back fresh = refl
    way_back resumed = refl

    one_more : (P : ℕ → Type 0) (n : ℕ) → ((j : ℕ) → j < n → P j) → P n → (j : ℕ) → j < suc n → P j
    one_more P n below this j h = elim (ℕ_discrete j n) [
      | yes e ↦ subst P (sym e) this
      | no e ↦ below j (omega arith)
    ]

    module _ (n : ℕ) (best : code.Option Best) (a : Among n best) where
      among_none : valid (0x21 + n) ≡ none → Among (suc n) best
      among_none e =
          record {
            none_found = λ f. one_more (λ j. valid (0x21 + j) ≡ none) n (a.none_found f) e;
            this_found = a.this_found;
            largest = λ f. one_more (λ j. (y : Sent) → In y l → name y ≡ 0x21 + j → Valid (name y) → y.start ≤ start_of best) n (a.largest f)
                (λ y i q v. absurd (v (ap valid q ∙ e)));
          }

      module _ (w : Way) (e : valid (0x21 + n) ≡ some w) where
        abbrev s : Stands start l (0x21 + n)
        s = stands (0x21 + n) (is_valid_lem (0x21 + n) w e)

        same_start : (y : Sent) → In y l → name y ≡ 0x21 + n → y.start ≡ start (0x21 + n)
        same_start y i q = ap (λ (z : Sent). z.start) (s.alone y i q) ∙ sym s.starts

        among_kept : is_found best ≡ true → start (0x21 + n) ≤ start_of best → Among (suc n) best
        among_kept f h =
            record {
              none_found = λ g. absurd (true≢false (sym f ∙ g));
              this_found = a.this_found;
              largest = λ g. one_more (λ j. (y : Sent) → In y l → name y ≡ 0x21 + j → Valid (name y) → y.start ≤ start_of best) n (a.largest g)
                  (λ y i q v. let z = same_start y i q in omega arith);
            }

        among_new : ((j : ℕ) → j < n → (y : Sent) → In y l → name y ≡ 0x21 + j → Valid (name y) → y.start ≤ start (0x21 + n)) → Among (suc n) (found_at (start (0x21 + n)) (is_resumed w))
        among_new below =
            record {
              none_found = λ g. absurd (true≢false g);
              this_found = λ g. (s.this, s.there, ap valid s.named ∙ (e ∙ ap (λ u. some u) (sym (way_back w))), sym s.starts);
              largest = λ g. one_more (λ j. (y : Sent) → In y l → name y ≡ 0x21 + j → Valid (name y) → y.start ≤ start (0x21 + n)) n below
                  (λ y i q v. let z = same_start y i q in omega arith);
            }

        among_later : Among (suc n) (better_of best (some w) (start (0x21 + n)))
        unfolding better_of is_later resumed_by
        among_later = go (is_found best) refl
          where
            go : (b : Bool) → is_found best ≡ b → Among (suc n) (cond (cond b (ltb (start_of best) (start (0x21 + n))) true) (found_at (start (0x21 + n)) (is_resumed w)) best)
            go false f = among_new (λ j h y i q v. absurd (v (ap valid q ∙ a.none_found f j h)))
            go true f = elim (dec_lt (start_of best) (start (0x21 + n))) [
              | yes h ↦ rw (lt-ltb _ _ h) (among_new (λ j k y i q v. let z = a.largest f j k y i q v in omega arith))
              | no h ↦ let k : start (0x21 + n) ≤ start_of best = omega arith in rw (le-ltb _ _ k) (among_kept f k)
            ]

      among_better : Among (suc n) (better_of best (valid (0x21 + n)) (start (0x21 + n)))
      unfolding better_of is_later
      among_better = go (valid (0x21 + n)) refl
        where
          go : (o : Option Way) → valid (0x21 + n) ≡ o → Among (suc n) (better_of best o (start (0x21 + n)))
          go none e = among_none e
          go (some w) e = among_later w e

    among_from : (k n t : ℕ) (best : code.Option Best) → t ≡ 0x21 + n → Among n best → Among (n + k) (best_from valid start k t best)
    unfolding best_from
    among_from zero n t best q a = subst (λ m. Among m best) (let e : n ≡ n + 0 = omega arith in e) a
    among_from (suc k) n t best q a =
        let m : suc n + k ≡ n + suc k = omega arith in
        let b : Among (suc n) (better_of best (valid t) (start t)) = rw q (among_better n best a) in
        subst (λ r. Among r (best_from valid start k (t + 1) (better_of best (valid t) (start t)))) m
        (among_from k (suc n) (t + 1) (better_of best (valid t) (start t)) (omega arith) b)

    among_start : Among 0 none_yet
    among_start =
        record { none_found = λ f j h. absurd (omega arith); this_found = λ f. absurd (false≢true f); largest = λ f. absurd (false≢true f) }

    pub record Last (best : code.Option Best) : Type 0 where
      pub no_last : is_found best ≡ false → last_valid valid l ≡ none
      pub the_last : is_found best ≡ true → (x : Sent) × In x l × (last_valid valid l ≡ chosen_as x (way_if (resumed_of best))) × (x.start ≡ start_of best)

    -- no TEP is valid but 21 to 24
    pub best_is_last : ((t : ℕ) → Valid t → (0x21 ≤ t) × (t ≤ 0x24)) → (i : ℕ) → Ordered i l → Last (best_from valid start 4 0x21 none_yet)
    best_is_last known i o = record { no_last = none_last; the_last = last }
      where
        best : code.Option Best
        best = best_from valid start 4 0x21 none_yet

        a : Among 4 best
        a = subst (λ n. Among n best) (let e : 0 + 4 ≡ 4 = omega arith in e) (among_from 4 0 0x21 none_yet (let e : 0x21 ≡ 0x21 + 0 = omega arith in e) among_start)

        none_last : is_found best ≡ false → last_valid valid l ≡ none
        none_last f = last_none l (λ x p. ⊎_elim (λ n. n)
            (λ v. let k = known (name x) (is_valid_lem (name x) v.0 v.1) in
            let q : name x ≡ 0x21 + (name x - 0x21) = omega arith in
            ap valid q ∙ a.none_found f (name x - 0x21) (omega arith))
            (valid_or_not (name x)))

        last : is_found best ≡ true → (x : Sent) × In x l × (last_valid valid l ≡ chosen_as x (way_if (resumed_of best))) × (x.start ≡ start_of best)
        last f =
            let t = a.this_found f in
            let x = t.0 in
            let most : (y : Sent) → In y l → Valid (name y) → y.start ≤ x.start = λ y p v.
            let k = known (name y) v in
            let h = a.largest f (name y - 0x21) (omega arith) y p (omega arith) v in
            let e = t.3 in
            omega arith in
            (x, t.1, last_some l i o x (way_if (resumed_of best)) t.1 t.2 most, t.3)
