-- The cases of the judgement of two options that are found, as the code meets them. Assumes nothing.
use Rattle.std.specs.Prelude.{ℕ, ◌≤◌, ◌≡◌, refl, List, Bool, true, false, cond, not, ◌&&◌, ◌||◌, eqb, length}
use Rattle.std.proofs.Common.{sym, ◌∙◌, ap, arith}
use Rattle.std.proofs.Math.Path.{ap₂}
use Rattle.std.proofs.Math.Option.{Option}
use borrow.Author.Tests.{eq-eqb, ne_eqb}
use Rattle.eno.specs.Area.{finding, part_of}
use Rattle.eno.specs.Cause.{numbered}
use Rattle.eno.specs.Suboption.{suboptions, is_ill_formed}
use Rattle.eno.specs.Judge.{of_a, of_b, Judged, plain, negotiate, role_of, aware_of, teps_of, judge}
use Rattle.eno.proofs.Laws.Found.{found_short}
use Rattle.eno.proofs.Laws.Tests.{aware_or_not}
use Rattle.eno.specs.declared.SessionRecord.{SessionRecord}
use Rattle.suboptions.specs.Summary.{entries_of, summary_of}
use Rattle.suboptions.specs.Laws.{saying}
use Rattle.suboptions.proofs.Laws.{summary_says}
use Rattle.suboptions.specs.declared.Summary.{Summary}
use Rattle.valid_tep.specs.Best.{best_of}
use Rattle.valid_tep.specs.declared.Best.{Best}
use Rattle.std.specs.Prelude as code
use Rattle.judgement.specs.Answers.{without_transcript, Judges}
use Rattle.judgement.specs.Laws.Plainly.{judges_reason}
use Rattle.judgement.specs.Laws.Found.{after_found}
use Rattle.judgement.specs.declared.Reason.TheVariants as reason
use Rattle.judgement.specs.declared.Verdict.TheVariants as verdict
use Rattle.judgement.specs.declared.Judgement.{Judgement}
use Rattle.judge_quick.specs.Quick.{concluded, negotiated}
use Rattle.judge_quick.specs.Laws.Ways.{sides}
use Rattle.judge_quick.specs.Laws.Judging.{conclusion}

module _ (mandatory : Bool) (hand : Option SessionRecord) (ownArea peerArea : List ℕ) where
  abbrev judged_areas : Judged
  judged_areas = judge mandatory hand ownArea peerArea

  module _ (own peer : List ℕ) (eo : own ≡ part_of ownArea (finding ownArea true)) (ep : peer ≡ part_of peerArea (finding peerArea true)) where
    within_own : length own ≤ 255
    within_own = let h = found_short ownArea true own eo in omega arith

    within_peer : length peer ≤ 255
    within_peer = let h = found_short peerArea true peer ep in omega arith

    module _ (no : length own ≡ 0 → ⊥) (np : length peer ≡ 0 → ⊥) where
      module _ (s p : Summary) (es : s ≡ summary_of own) (et : p ≡ summary_of peer) where
        ill_own : is_ill_formed (suboptions own) ≡ s.ill_formed
        ill_own = sym (ap (λ (x : Summary). x.ill_formed) (es ∙ summary_says own within_own))

        ill_peer : is_ill_formed (suboptions peer) ≡ p.ill_formed
        ill_peer = sym (ap (λ (x : Summary). x.ill_formed) (et ∙ summary_says peer within_peer))

        role_own : role_of own ≡ s.role
        role_own = sym (ap (λ (x : Summary). x.role) (es ∙ summary_says own within_own))

        role_peer : role_of peer ≡ p.role
        role_peer = sym (ap (λ (x : Summary). x.role) (et ∙ summary_says peer within_peer))

        unaware_peer : eqb (aware_of peer) 0 ≡ not p.aware
        unaware_peer = aware_or_not peer ∙ ap not (sym (ap (λ (x : Summary). x.aware) (et ∙ summary_says peer within_peer)))

        -- the tests in the summaries' terms
        by_summaries : judged_areas ≡ cond (s.ill_formed || p.ill_formed) (plain (numbered 3))
            (cond (eqb s.role p.role) (plain (numbered 4))
            (cond (mandatory && not p.aware) (plain (numbered 5))
            (negotiate (role_of own) (sides hand own peer (eqb (role_of own) 1)))))
        by_summaries = after_found mandatory hand ownArea peerArea own peer eo ep no np
            ∙ (ap₂ (λ x y. cond (x || y) (plain (numbered 3)) (cond (eqb (role_of own) (role_of peer)) (plain (numbered 4)) (cond (mandatory && eqb (aware_of peer) 0) (plain (numbered 5)) (negotiate (role_of own) (sides hand own peer (eqb (role_of own) 1)))))) ill_own ill_peer
            ∙ (ap₂ (λ x y. cond (s.ill_formed || p.ill_formed) (plain (numbered 3)) (cond (eqb x y) (plain (numbered 4)) (cond (mandatory && eqb (aware_of peer) 0) (plain (numbered 5)) (negotiate (role_of own) (sides hand own peer (eqb (role_of own) 1)))))) role_own role_peer
            ∙ ap (λ x. cond (s.ill_formed || p.ill_formed) (plain (numbered 3)) (cond (eqb s.role p.role) (plain (numbered 4)) (cond (mandatory && x) (plain (numbered 5)) (negotiate (role_of own) (sides hand own peer (eqb (role_of own) 1)))))) unaware_peer))

        pub judge_ill_own : s.ill_formed ≡ true → (r : Judgement) → r ≡ without_transcript (verdict.Plain reason.IllFormed) → Judges judged_areas r
        judge_ill_own i r w = judges_reason judged_areas (numbered 3) (verdict.Plain reason.IllFormed) (by_summaries ∙ simp i) refl r w

        module _ (well : s.ill_formed ≡ false) where
          pub judge_ill_peer : p.ill_formed ≡ true → (r : Judgement) → r ≡ without_transcript (verdict.Plain reason.IllFormed) → Judges judged_areas r
          judge_ill_peer i r w = judges_reason judged_areas (numbered 3) (verdict.Plain reason.IllFormed) (by_summaries ∙ simp (well, i)) refl r w

          module _ (well' : p.ill_formed ≡ false) where
            pub judge_equal : s.role ≡ p.role → (r : Judgement) → r ≡ without_transcript (verdict.Plain reason.EqualRoles) → Judges judged_areas r
            judge_equal i r w = judges_reason judged_areas (numbered 4) (verdict.Plain reason.EqualRoles) (by_summaries ∙ simp (well, well', eq-eqb _ _ i)) refl r w

            module _ (differ : s.role ≡ p.role → ⊥) (u : Bool) (is : u ≡ mandatory && not p.aware) where
              pub judge_unaware : u ≡ true → (r : Judgement) → r ≡ without_transcript (verdict.Plain reason.NotAware) → Judges judged_areas r
              judge_unaware i r w = judges_reason judged_areas (numbered 5) (verdict.Plain reason.NotAware) (by_summaries ∙ simp (well, well', ne_eqb _ _ differ, ← is, i)) refl r w

              pub judge_negotiated : u ≡ false → (r : Judgement) → r ≡ negotiated own peer hand s p → Judges judged_areas r
              unfolding negotiated
              judge_negotiated i r w =
                  let j : judged_areas ≡ negotiate (role_of own) (sides hand own peer (eqb (role_of own) 1)) = by_summaries ∙ simp (well, well', ne_eqb _ _ differ, ← is, i) in
                  let n : r ≡ negotiated own peer hand (saying (is_ill_formed (suboptions own)) (role_of own) (eqb (aware_of own) 1) (entries_of (teps_of own)))
                  (saying (is_ill_formed (suboptions peer)) (role_of peer) (eqb (aware_of peer) 1) (entries_of (teps_of peer))) =
                  w ∙ ap₂ (negotiated own peer hand) (es ∙ summary_says own within_own) (et ∙ summary_says peer within_peer) in
                  rw (j, n) (conclusion hand own peer (eqb (role_of own) 1) (role_of own))

-- what `negotiate` computes
pub negotiated_by_lem : (own peer : List ℕ) (hand : Option SessionRecord) (s p : Summary) (a b : List ℕ) (best : code.Option Best) → a ≡ of_a (eqb s.role 1) own peer
    → b ≡ of_b (eqb s.role 1) own peer → best ≡ best_of a b hand (eqb s.role 1) s.teps p.teps → concluded a b s.role best ≡ negotiated own peer hand s p
unfolding negotiated
negotiated_by_lem own peer hand s p a b best ea eb e =
    ap (concluded a b s.role) e ∙ ap₂ (λ x y. concluded x y s.role (best_of x y hand (eqb s.role 1) s.teps p.teps)) ea eb
