-- The judgement by summaries and largest start is the judgement of the two areas. Assumes nothing.
use Rattle.std.specs.Prelude.{ℕ, zero, suc, ◌+◌, ◌-◌, ◌≤◌, ◌<◌, ◌%◌, ◌/◌, ◌≡◌, Bool, cond, not, ◌&&◌, ◌||◌, ◌⊎◌, eqb, ltb, length, replicate}
use Rattle.std.proofs.Math.Path.{refl, sym, ap}
use Rattle.std.proofs.Common.{◌∙◌, ap₂, subst, true≢false, inl, inr, ⊎_elim, arith, eq-eqb, ne_eqb, eqb-true, ltb-false, ltb-true, lt-ltb, le-ltb, length-append}
use mathlib.Core.List.{List, [], ◌∷◌, ◌++◌}
use Rattle.std.proofs.Math.Bool.{true, false}
use Rattle.std.proofs.lemmas.Bool.{false≢true}
use Rattle.std.proofs.Math.Option.{Option, none, some}
use Rattle.std.proofs.Math.ListN.{get_or}
use Rattle.eno.specs.Area.{Finding, refused, unreadable, missing, found, finding, part_of, syn_option, most_area, chosen, options}
use Rattle.eno.specs.Suboption.{Sent, name, suboptions, is_ill_formed, aware_bit, global_byte}
use Rattle.eno.specs.Walk.{listed}
use Rattle.eno.specs.Judge.{Way, way_if, named, of_a, of_b, Sides, teps_of, validity, Negotiated, last_valid, Judged, refuse, plain, encrypt, agreed, negotiate, first_of, is_unreadable, is_missing, too_long, role_of, aware_of, judge}
use Rattle.eno.proofs.Laws.Found.{found_option}
use Rattle.eno.proofs.Laws.Tests.{named_there}
use Rattle.eno.specs.Laws.Teps.{In, Ordered, Stood}
use Rattle.eno.proofs.Laws.Teps.{in_every, teps_stand, teps_ordered}
use Rattle.eno.specs.declared.SessionRecord.{SessionRecord}
use Rattle.suboptions.specs.Summary.{entries_of, summary_of}
use Rattle.suboptions.specs.Laws.{saying}
use Rattle.suboptions.proofs.Laws.{summary_says}
use Rattle.suboptions.specs.declared.Entry.{Entry}
use Rattle.suboptions.specs.declared.Summary.{Summary}
use Rattle.judgement.specs.Answers.{judged_of, transcript_of, most_transcript, padded, without_transcript, Judges}
use Rattle.valid_tep.specs.Best.{none_yet, best_from, ways_of, starts_of, best_of, better_of, is_found, start_of, resumed_of}
use Rattle.judge_quick.specs.Quick.{byte_before, concluded, negotiated}
use Rattle.valid_tep.specs.declared.Best.{Best}
use Rattle.std.specs.Prelude as code
use Rattle.judgement.specs.declared.Reason.TheVariants as reason
use Rattle.judgement.specs.declared.Verdict.{Verdict}
use Rattle.judgement.specs.declared.Verdict.TheVariants as verdict
use Rattle.judgement.specs.declared.Judgement.{Judgement}
use Rattle.judge_quick.specs.Laws.Last.{Stands, Last, best_is_last}
use Rattle.judge_quick.specs.Laws.Ways.{sides, ways_valid, Both, valid_both, starts_b_lem}

there_named : (t : ℕ) (l : List Sent) (y : Sent) → In y l → name y ≡ t → In y (named t l)
unfolding named
there_named t [] y h q = absurd h
there_named t (x ∷ l) y h q = go (eqb (name x) t) refl h (λ j. there_named t l y j q)
  where
    go : (b : Bool) → eqb (name x) t ≡ b → In y (x ∷ l) → (In y l → In y (named t l)) → In y (cond b (x ∷ named t l) (named t l))
    go true e h rest = ⊎_elim (λ r. inl r) (λ j. inr (rest j)) h
    go false e h rest =
        ⊎_elim (λ r. let n : name x ≡ t = ap (λ (z : Sent). name z) (sym r) ∙ q in absurd (false≢true (sym e ∙ eq-eqb _ _ n))) (λ j. rest j) h

module _ (t : ℕ) (l : List Sent) (x : Sent) (e : named t l ≡ x ∷ []) where
  one_there : In x l × (name x ≡ t)
  one_there = named_there t l x (subst (In x) (sym e) (inl refl))

  one_alone : (y : Sent) → In y l → name y ≡ t → y ≡ x
  one_alone y h q = ⊎_elim (λ r. r) (λ z. absurd z) (subst (In y) e (there_named t l y h q))

-- the best is looked for at 21 to 24 alone
best_same : (f g : ℕ → Option Way) (start : ℕ → ℕ) → ((t : ℕ) → 0x21 ≤ t → t ≤ 0x24 → f t ≡ g t) → (k t : ℕ) (best : code.Option Best) → 0x21 ≤ t → t + k ≤ 0x25
    → best_from f start k t best ≡ best_from g start k t best
unfolding best_from
best_same f g start h zero t best low high = refl
best_same f g start h (suc k) t best low high =
    ap (λ w. best_from f start k (t + 1) (better_of best w (start t))) (h t low (omega arith)) ∙ best_same f g start h k (t + 1) (better_of best (g t) (start t)) (omega arith) (omega arith)

module _ (hand : Option SessionRecord) (own peer : List ℕ) (own_is_b : Bool) where
  abbrev s : Sides
  s = sides hand own peer own_is_b

  abbrev a : List ℕ
  a = of_a own_is_b own peer

  abbrev b : List ℕ
  b = of_b own_is_b own peer

  abbrev start : ℕ → ℕ
  start = starts_of own_is_b (entries_of (teps_of own)) (entries_of (teps_of peer))

  one_of_b : (t : ℕ) (o : Both hand own peer own_is_b t) → named t (teps_of b) ≡ of_b own_is_b o.mine o.theirs ∷ []
  unfolding of_b
  one_of_b t o = go own_is_b
    where
      go : (c : Bool) → named t (teps_of (of_b c own peer)) ≡ of_b c o.mine o.theirs ∷ []
      go true = o.my_one
      go false = o.their_one

  stands : (t : ℕ) → (validity s t ≡ none → ⊥) → Stands (validity s) start (teps_of b) t
  stands t v =
      let o = valid_both hand own peer own_is_b t v in
      let x = of_b own_is_b o.mine o.theirs in
      let e = one_of_b t o in
      let h = one_there t (teps_of b) x e in
      record { this = x; there = h.0; named = h.1; starts = starts_b_lem hand own peer own_is_b t o; alone = one_alone t (teps_of b) x e }

  known : (t : ℕ) → (validity s t ≡ none → ⊥) → (0x21 ≤ t) × (t ≤ 0x24)
  known t v = let o = valid_both hand own peer own_is_b t v in (o.low, o.high)

  last_is : Last (validity s) start (teps_of b) stands (best_from (validity s) start 4 0x21 none_yet)
  last_is = best_is_last (validity s) start (teps_of b) stands known 2 (teps_ordered b)

  best_of_valid : best_of a b hand own_is_b (entries_of (teps_of own)) (entries_of (teps_of peer)) ≡ best_from (validity s) start 4 0x21 none_yet
  unfolding best_of
  best_of_valid = best_same _ (validity s) start (ways_valid hand own peer own_is_b) 4 0x21 none_yet (omega arith) (omega arith)

  byte_is : (x : Sent) → In x (teps_of b) → (at : ℕ) → x.start ≡ at → byte_before b at ≡ x.byte
  unfolding byte_before
  byte_is x h at e =
      let o = in_every (Stood b) (teps_of b) (teps_stand b) x h in
      let z : at ≡ 0 → ⊥ = λ q. o.positive (e ∙ q) in
      simp (ne_eqb _ _ z) (ap (λ n. get_or b (n - 1) 0) (sym e) ∙ o.byte_there)

  none_concluded : (role : ℕ) (best : code.Option Best) → is_found best ≡ false → last_valid (validity s) (teps_of b) ≡ none → Judges (negotiate role s) (concluded a b role best)
  unfolding negotiate concluded agreed without_transcript padded
  none_concluded role best q l = rw (l, agreed) (simp q (record { told = refl; counted = refl; filled = refl }))

  one_concluded : (role : ℕ) (best : code.Option Best) (x : Sent) → is_found best ≡ true → In x (teps_of b) → x.start ≡ start_of best
      → last_valid (validity s) (teps_of b) ≡ some (record { byte = x.byte; way = way_if (resumed_of best) }) → Judges (negotiate role s) (concluded a b role best)
  unfolding negotiate concluded agreed
  one_concluded role best x q h e l =
      rw (l, agreed) (simp q
      (record {
        told = ap (λ n. encrypt role n (way_if (resumed_of best)) (a ++ b)) (byte_is x h (start_of best) e);
        counted = sym (length-append a b);
        filled = refl;
      }))

  -- what is concluded is what is negotiated
  pub conclusion : (role : ℕ) → Judges (negotiate role s) (concluded a b role (best_of a b hand own_is_b (entries_of (teps_of own)) (entries_of (teps_of peer))))
  conclusion role = rw best_of_valid (go (best_from (validity s) start 4 0x21 none_yet) last_is)
    where
      go : (best : code.Option Best) → Last (validity s) start (teps_of b) stands best → Judges (negotiate role s) (concluded a b role best)
      go best l = by (is_found best) refl
        where
          by : (f : Bool) → is_found best ≡ f → Judges (negotiate role s) (concluded a b role best)
          by false q = none_concluded role best q (l.no_last q)
          by true q = let r = l.the_last q in one_concluded role best r.0 q r.1 r.3 r.2
