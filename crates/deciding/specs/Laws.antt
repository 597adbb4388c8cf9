-- What the code's tests come to is what the definitions say.
use Rattle.std.specs.Prelude.{ℕ, ◌≤◌, ◌/◌, ◌%◌, ◌≡◌, List, [], ◌∷◌, Bool, false, not, ◌&&◌, ltb}
use Rattle.std.proofs.Math.Path.{refl, sym, ap}
use Rattle.std.proofs.Common.{◌∙◌, ap₂, eq-eqb, ne_eqb, le-ltb}
use Rattle.std.proofs.Math.Bool.{true, cond}
use Rattle.std.proofs.Math.Option.{Option, none, some}
use native.Mathlib.Omega.{arith}
use Rattle.std.proofs.Math.Decide.{ℕ_discrete}
use Rattle.std.proofs.Math.Dec.{eqb}
use Rattle.std.proofs.Math.ListN.{length}
use Rattle.eno.specs.Area.{Placed, Fault, Finding, refused, unreadable, missing, found, finding, part_of, syn_option, choose, chosen, enos, options}
use Rattle.eno.specs.Cause.{numbered, blame, first_cause}
use Rattle.eno.specs.Walk.{Reading, readable, faulty, listed}
use Rattle.eno.specs.Suboption.{suboptions, is_ill_formed, aware_bit, global_byte}
use Rattle.eno.specs.Judge.{is_unreadable, is_missing, role_of, aware_of, teps_of}
use Rattle.eno.specs.Option.{is_tep_list}
use Rattle.eno.proofs.Laws.Found.{found_option, found_short}
use Rattle.eno.specs.Laws.Tests.{Found}
use Rattle.eno.proofs.Laws.Tests.{short_finds, is_found, aware_or_not}
use Rattle.suboptions.specs.Summary.{entries_of, summary_of}
use Rattle.suboptions.specs.Laws.{saying}
use Rattle.suboptions.proofs.Laws.{summary_says}
use Rattle.suboptions.specs.declared.Summary.{Summary}
use Rattle.door.specs.Door.{Seen}
use Rattle.door.specs.Answer.{choose_tep, answer_reason, Answering, plain_for, chosen_or, reason_or, answering}
use Rattle.tep_choice.specs.Choosing.{chosen_by}
use Rattle.tep_choice.specs.Laws.Choice.{chosen_is}
use Rattle.tep_choice.specs.Laws.Listing.{tep_list}
use Rattle.deciding.specs.Steps.{missed_as, summed_up, decided_by}

-- the reasons, one after another
by_reasons : (i r u : Bool) (x : Answering)
    → reason_or (cond i (some (numbered 3)) (cond r (some (numbered 4)) (cond u (some (numbered 5)) none))) x ≡ cond i (plain_for (numbered 3)) (cond r (plain_for (numbered 4)) (cond u (plain_for (numbered 5)) x))
by_reasons true r u x = refl
by_reasons false true u x = refl
by_reasons false false true x = refl
by_reasons false false false x = refl

module _ (v : Seen) (mandatory : Bool) (area list : List ℕ) (short : length area ≤ 40) (o : List ℕ) (is : o ≡ syn_option area) where
  abbrev answering_area : Answering
  answering_area = answering v mandatory area list

  -- no option was found
  missed_is : length o ≡ 0 → missed_as (finding area true) ≡ answering_area
  unfolding answering answer_reason first_cause syn_option part_of
  missed_is z = go (finding area true) refl
    where
      go : (f : Finding) → finding area true ≡ f → missed_as f ≡ answering_area
      go refused q = absurd (short_finds area short q)
      go (unreadable y) q = rw q
      go missing q = rw q
      go (found i n) q =
          let h = found_option area true i n q in
          let l : length o ≡ length (part_of area (found i n)) = ap length (is ∙ ap (part_of area) q) in
          let w = h.long in
          let two = h.two in
          absurd (omega arith)

  within : length o ≤ 255
  unfolding syn_option
  within = let h = found_short area true o is in omega arith

  module _ (some_bytes : length o ≡ 0 → ⊥) where
    found_here : Found area
    unfolding syn_option
    found_here = is_found area o is some_bytes

    after_found : answering_area ≡ cond (is_ill_formed (suboptions o)) (plain_for (numbered 3))
        (cond (eqb (role_of o) 1) (plain_for (numbered 4))
        (cond (mandatory && eqb (aware_of o) 0) (plain_for (numbered 5))
        (chosen_or (choose_tep o list v.held))))
    unfolding answering answer_reason first_cause
    after_found =
        let F = found_here in
        rw is
        (simp (F.not_unreadable, F.not_missing)
        (by_reasons (is_ill_formed (suboptions (syn_option area))) (eqb (role_of (syn_option area)) 1) (mandatory && eqb (aware_of (syn_option area)) 0)
        (chosen_or (choose_tep (syn_option area) list v.held))))

    -- the tests in the summary's terms
    summed_is : is_tep_list list ≡ true → summed_up mandatory o list v.held (summary_of o) ≡ answering_area
    unfolding summed_up
    summed_is teps =
        ap (summed_up mandatory o list v.held) (summary_says o within)
        ∙ (ap₂ (λ u x. cond (is_ill_formed (suboptions o)) (plain_for (numbered 3)) (cond (eqb (role_of o) 1) (plain_for (numbered 4)) (cond (mandatory && u) (plain_for (numbered 5)) x)))
        (sym (aware_or_not o)) (chosen_is o v.held list (tep_list list teps))
        ∙ sym after_found)

  -- of a TEP list, for the option that was found in a short area
  pub decided_is : is_tep_list list ≡ true → decided_by mandatory area o list v.held ≡ answering v mandatory area list
  unfolding decided_by
  decided_is teps = elim (ℕ_discrete (length o) 0) [
    | yes e ↦ simp (eq-eqb _ _ e) (missed_is e)
    | no h ↦ simp (ne_eqb _ _ h) (summed_is h teps)
  ]
