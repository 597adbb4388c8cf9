-- The cases of the judgement of two options that are found, by their lists. Assumes nothing.
use Prim.Native.Nat.{ℕ, ◌≤◌, ◌/◌, ◌%◌}
use mathlib.Core.Path.{◌≡◌, refl, sym, ◌∙◌, ap, ap₂}
use mathlib.Core.List.{List}
use mathlib.Core.Bool.{Bool, true, false, cond, not, ◌&&◌, ◌||◌}
use mathlib.Core.Option.{Option}
use borrow.Author.Tests.{eq-eqb, ne_eqb}
use lib.Dec.{eqb}
use lib.ListN.{length}
use Rattle.eno.specs.Area.{finding, part_of}
use Rattle.eno.specs.Cause.{numbered}
use Rattle.eno.specs.Suboption.{suboptions, is_ill_formed, global_byte, role_bit, aware_bit, teps}
use Rattle.eno.specs.Judge.{of_a, of_b, Judged, plain, validity, negotiate, role_of, aware_of, teps_of, judge}
use Rattle.eno.proofs.Laws.Found.{found_short}
use Rattle.eno.proofs.Laws.Tests.{aware_or_not}
use Rattle.eno.specs.declared.SessionRecord.{SessionRecord}
use Rattle.judgement.specs.Answers.{without_transcript, Judges}
use Rattle.judgement.specs.Laws.Plainly.{judges_reason}
use Rattle.judgement.specs.Laws.Found.{sides_of, after_found, short_b}
use Rattle.judgement.specs.declared.Reason.TheVariants as reason
use Rattle.judgement.specs.declared.Verdict.TheVariants as verdict
use Rattle.judgement.specs.declared.Judgement.{Judgement}
use Rattle.suboption_list.specs.List.{items_in, list_of}
use Rattle.suboption_list.proofs.Laws.{list_says}
use Rattle.suboption_list.specs.declared.SuboptionList.{SuboptionList}
use Rattle.plain_validity.specs.Validity.{validity_in}
use Rattle.plain_validity.proofs.ValidityLaws.{validity_of}
use Rattle.plain_striking.specs.Striking.{struck, last_of, taken}
use Rattle.plain_striking.proofs.Striking.{judge_by_striking}
use Rattle.plain_judge.specs.Plain.{concluded, negotiated_in}
use Rattle.plain_judge.proofs.Concluding.{says_agreed}

-- what is listed of a short option
module _ (o : List ℕ) (short : length o ≤ 40) (l : SuboptionList) (e : l ≡ list_of o) where
  ill_listed : is_ill_formed (suboptions o) ≡ l.ill_formed
  ill_listed = sym (ap (λ (x : SuboptionList). x.ill_formed) e ∙ (list_says o short).0)

  teps_listed : teps (items_in l) ≡ teps_of o
  unfolding teps_of
  teps_listed = ap (λ x. teps (items_in x)) e ∙ ap teps (list_says o short).1

  role_listed : (g : ℕ) → g ≡ global_byte (items_in l) → role_of o ≡ g % 2
  unfolding role_of role_bit
  role_listed g q = sym (ap (λ x. x % 2) q ∙ ap (λ x. global_byte x % 2) (ap items_in e ∙ (list_says o short).1))

  aware_listed : (g : ℕ) → g ≡ global_byte (items_in l) → aware_of o ≡ g / 2 % 2
  unfolding aware_of aware_bit
  aware_listed g q = sym (ap (λ x. x / 2 % 2) q ∙ ap (λ x. global_byte x / 2 % 2) (ap items_in e ∙ (list_says o short).1))

module _ (mandatory : Bool) (hand : Option SessionRecord) (ownArea peerArea : List ℕ) (own peer : List ℕ) where
  abbrev judged_areas : Judged
  judged_areas = judge mandatory hand ownArea peerArea

  module _ (eo : own ≡ part_of ownArea (finding ownArea true)) (ep : peer ≡ part_of peerArea (finding peerArea true)) (own-some : length own ≡ 0 → ⊥) (peer-some : length peer ≡ 0 → ⊥)
      (s p : SuboptionList) (es : s ≡ list_of own) (et : p ≡ list_of peer) where
    own_short : length own ≤ 40
    own_short = found_short ownArea true own eo

    peer_short : length peer ≤ 40
    peer_short = found_short peerArea true peer ep

    -- reason 3, by the lists
    by_lists : judged_areas ≡ cond (s.ill_formed || p.ill_formed) (plain (numbered 3))
        (cond (eqb (role_of own) (role_of peer)) (plain (numbered 4))
        (cond (mandatory && eqb (aware_of peer) 0) (plain (numbered 5))
        (negotiate (role_of own) (sides_of hand own peer (eqb (role_of own) 1)))))
    by_lists = after_found mandatory hand ownArea peerArea own peer eo ep own-some peer-some
        ∙ ap₂ (λ x y. cond (x || y) (plain (numbered 3)) (cond (eqb (role_of own) (role_of peer)) (plain (numbered 4)) (cond (mandatory && eqb (aware_of peer) 0) (plain (numbered 5)) (negotiate (role_of own) (sides_of hand own peer (eqb (role_of own) 1))))))
        (ill_listed own own_short s es) (ill_listed peer peer_short p et)

    pub plain_ill_own : s.ill_formed ≡ true → (r : Judgement) → r ≡ without_transcript (verdict.Plain reason.IllFormed) → Judges judged_areas r
    plain_ill_own i r w = judges_reason judged_areas (numbered 3) (verdict.Plain reason.IllFormed) (by_lists ∙ simp i) refl r w

    module _ (well : s.ill_formed ≡ false) where
      pub plain_ill_peer : p.ill_formed ≡ true → (r : Judgement) → r ≡ without_transcript (verdict.Plain reason.IllFormed) → Judges judged_areas r
      plain_ill_peer i r w = judges_reason judged_areas (numbered 3) (verdict.Plain reason.IllFormed) (by_lists ∙ simp (well, i)) refl r w

      module _ (well-too : p.ill_formed ≡ false) (g h : ℕ) (eg : g ≡ global_byte (items_in s)) (eh : h ≡ global_byte (items_in p)) where
        -- reasons 4 and 5, by the first global bytes
        by_globals : judged_areas ≡ cond (eqb (g % 2) (h % 2)) (plain (numbered 4))
            (cond (mandatory && not (eqb (h / 2 % 2) 1)) (plain (numbered 5))
            (negotiate (g % 2) (sides_of hand own peer (eqb (g % 2) 1))))
        by_globals =
            by_lists ∙ (simp (well, well-too)
            (ap₂ (λ x y. cond (eqb x y) (plain (numbered 4)) (cond (mandatory && eqb (aware_of peer) 0) (plain (numbered 5)) (negotiate x (sides_of hand own peer (eqb x 1)))))
            (role_listed own own_short s es g eg) (role_listed peer peer_short p et h eh)
            ∙ ap (λ x. cond (eqb (g % 2) (h % 2)) (plain (numbered 4)) (cond (mandatory && x) (plain (numbered 5)) (negotiate (g % 2) (sides_of hand own peer (eqb (g % 2) 1)))))
            (aware_or_not peer ∙ ap (λ x. not (eqb x 1)) (aware_listed peer peer_short p et h eh))))

        pub plain_equal : g % 2 ≡ h % 2 → (r : Judgement) → r ≡ without_transcript (verdict.Plain reason.EqualRoles) → Judges judged_areas r
        plain_equal i r w = judges_reason judged_areas (numbered 4) (verdict.Plain reason.EqualRoles) (by_globals ∙ simp (eq-eqb _ _ i)) refl r w

        module _ (differ : g % 2 ≡ h % 2 → ⊥) (u : Bool) (is : u ≡ mandatory && not (eqb (h / 2 % 2) 1)) where
          pub plain_unaware : u ≡ true → (r : Judgement) → r ≡ without_transcript (verdict.Plain reason.NotAware) → Judges judged_areas r
          plain_unaware i r w = judges_reason judged_areas (numbered 5) (verdict.Plain reason.NotAware) (by_globals ∙ simp (ne_eqb _ _ differ, ← is, i)) refl r w

          -- what is left to be taken is that of the definition
          abbrev own_is_b : Bool
          own_is_b = eqb (g % 2) 1

          valid_is : validity_in (sides_of hand own peer own_is_b) (teps (items_in s)) (teps (items_in p)) ≡ validity (sides_of hand own peer own_is_b)
          valid_is = ap₂ (validity_in (sides_of hand own peer own_is_b)) (teps_listed own own_short s es) (teps_listed peer peer_short p et) ∙ validity_of (sides_of hand own peer own_is_b)

          abbrev b : List ℕ
          b = of_b own_is_b own peer

          listed_is : teps (items_in (list_of b)) ≡ teps_of b
          listed_is = teps_listed b (short_b own_is_b own peer b refl own_short peer_short) (list_of b) refl

          negotiated_is : negotiated_in own peer hand (g % 2) (teps (items_in s)) (teps (items_in p))
              ≡ concluded (of_a own_is_b own peer) b (g % 2) (taken (validity (sides_of hand own peer own_is_b)) (last_of (struck (validity (sides_of hand own peer own_is_b)) (teps_of b))))
          unfolding negotiated_in
          negotiated_is = ap₂ (λ v l. concluded (of_a own_is_b own peer) b (g % 2) (taken v (last_of (struck v l)))) valid_is listed_is

          pub plain_negotiated : u ≡ false → (r : Judgement) → r ≡ negotiated_in own peer hand (g % 2) (teps (items_in s)) (teps (items_in p)) → Judges judged_areas r
          plain_negotiated i r w =
              let j : judged_areas ≡ negotiate (g % 2) (sides_of hand own peer own_is_b) = by_globals ∙ simp (ne_eqb _ _ differ, ← is, i) in
              rw (j ∙ judge_by_striking (g % 2) (sides_of hand own peer own_is_b), w ∙ negotiated_is)
              (says_agreed (g % 2) (sides_of hand own peer own_is_b) (taken (validity (sides_of hand own peer own_is_b)) (last_of (struck (validity (sides_of hand own peer own_is_b)) (teps_of b)))))
