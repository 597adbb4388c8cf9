-- The outcomes of an answer, by the tests that lead to each.
use Prim.Native.Nat.{ℕ, ◌≤◌, ◌<◌}
use mathlib.Core.Path.{◌≡◌, refl, sym, ◌∙◌, ap, ap₂}
use mathlib.Core.List.{List}
use mathlib.Core.Bool.{Bool, true, false}
use mathlib.Core.Option.{Option, none, some}
use native.Mathlib.Omega.{arith}
use borrow.Author.Tests.{lt-ltb, le-ltb}
use lib.ListN.{length}
use Rattle.eno.specs.Area.{syn_option}
use Rattle.eno.specs.Option.{answered, option_with, answer_fits}
use Rattle.eno.specs.declared.Cause.{Cause}
use Rattle.door.specs.Door.{Seen, phase_of}
use Rattle.door.specs.Record.{record_at}
use Rattle.door.specs.Outcome.{Outcome, Effect, refused, written, plain, keep, refusal, unless}
use Rattle.door.specs.Offer.{is_idle, terms_fit}
use Rattle.door.specs.Answer.{Choice, plain_for, with, answering, choose_tep, answer_reason, reason_or, chosen_or, plain_door, answered_door, answer_with, answer_length, answer}
use Rattle.door.specs.Answers.{outcome_as}
use Rattle.door.specs.declared.Door.{Door}
use Rattle.tep_choice.specs.Choosing.{chosen}
use Rattle.opening.specs.Steps.{taking}
use Rattle.tep_choice.specs.Laws.Listing.{tep_list}
use Rattle.opening.specs.Laws.Terms.{terms_list, terms_nonce}
use Rattle.opening.specs.Laws.Writing.{Wrote}
use Rattle.opening.specs.Laws.Outcomes.{outcome_is}
use Rattle.answering.specs.Steps.{responded}
use Rattle.answering.proofs.Taken.{chosen_fits}

-- an answer whose arguments fit
module _ (v : Seen) (aware mandatory : Bool) (p nonce s : List ℕ) where
  module _ (tep at : ℕ) where
    pub responded_over : length s < length (option_with (answered aware tep (record_at v.held at) nonce)) → (t : List ℕ) → t ≡ s
        → outcome_as (refused 5) t v.door keep ≡ responded v aware mandatory p nonce s (with (chosen tep at))
    unfolding responded answer_length refusal unless
    responded_over h t e = rw e (simp (lt-ltb _ _ h))

    pub responded_option : (k : ℕ) (t : List ℕ) → Wrote (answered aware tep (record_at v.held at) nonce) s k t
        → (d : Door) → d ≡ answered_door (option_with (answered aware tep (record_at v.held at) nonce)) p mandatory tep (record_at v.held at)
        → (f : Effect) → f ≡ taking (length v.held) at
        → outcome_as (written k) t d f ≡ responded v aware mandatory p nonce s (with (chosen tep at))
    unfolding responded answer_length answer_with refusal unless taking
    responded_option k t w d p f q =
        outcome_is k _ t _ d _ f _ w.counted w.bytes p q ∙ sym (simp (le-ltb _ _ w.room))

  responded_plain : (n : Cause) → outcome_as (plain n) s (plain_door n) keep ≡ responded v aware mandatory p nonce s (plain_for n)
  unfolding responded answer_length answer_with refusal unless
  responded_plain n = let h : 0 ≤ length s = omega arith in simp (le-ltb _ _ h)

-- the tests of an answer
module _ (v : Seen) (area : List ℕ) (aware mandatory : Bool) (list nonce s : List ℕ) where
  pub answer_long : 40 < length area → outcome_as (refused 2) s v.door keep ≡ answer v area aware mandatory list nonce s
  unfolding answer refusal unless
  answer_long h = simp (lt-ltb 40 _ h)

  module _ (short : length area ≤ 40) where
    pub answer_terms_lem : terms_fit aware mandatory list nonce ≡ false → outcome_as (refused 3) s v.door keep ≡ answer v area aware mandatory list nonce s
    unfolding answer refusal unless
    answer_terms_lem e = simp (le-ltb _ _ short, e)

    module _ (fit : terms_fit aware mandatory list nonce ≡ true) where
      pub answer_turn : is_idle (phase_of v.door.phase) ≡ false → outcome_as (refused 4) s v.door keep ≡ answer v area aware mandatory list nonce s
      unfolding answer refusal unless
      answer_turn e = simp (le-ltb _ _ short, fit, e)

      module _ (idle : is_idle (phase_of v.door.phase) ≡ true) where
        goes : responded v aware mandatory (syn_option area) nonce s (answering v mandatory area list) ≡ answer v area aware mandatory list nonce s
        unfolding answer responded refusal
        goes = simp (le-ltb _ _ short, fit, idle)

        pub answer_plain : (n : Cause) → plain_for n ≡ answering v mandatory area list → outcome_as (plain n) s (plain_door n) keep ≡ answer v area aware mandatory list nonce s
        answer_plain n e = responded_plain v aware mandatory (syn_option area) nonce s n ∙ (ap (responded v aware mandatory (syn_option area) nonce s) e ∙ goes)

        pub answer_with_lem : (o : List ℕ) → o ≡ syn_option area → (t j : ℕ) → with (chosen t j) ≡ answering v mandatory area list
            → (x : Outcome) → x ≡ responded v aware mandatory o nonce s (with (chosen t j)) → x ≡ answer v area aware mandatory list nonce s
        answer_with_lem o is t j e x r =
            r ∙ (ap₂ (λ p a. responded v aware mandatory p nonce s a) is e ∙ goes)

      -- the TEP that is answered fits, and so does the record
      pub answer_fits_lem : (t j : ℕ) → with (chosen t j) ≡ answering v mandatory area list → answer_fits t (record_at v.held j) nonce ≡ true
      unfolding answering
      answer_fits_lem t j e = go (answer_reason mandatory area) (choose_tep (syn_option area) list v.held) refl e
        where
          go : (m : Option Cause) (k : Option Choice) → choose_tep (syn_option area) list v.held ≡ k → with (chosen t j) ≡ reason_or m (chosen_or k)
              → answer_fits t (record_at v.held j) nonce ≡ true
          go (some n) k q e = let z : ◌≡◌ {A = ℕ} 0 1 = cc in absurd (omega arith)
          go none none q e = let z : ◌≡◌ {A = ℕ} 0 1 = cc in absurd (omega arith)
          go none (some c) q e =
              let p : chosen t j ≡ c = cc in
              let f = chosen_fits (syn_option area) list nonce v.held (tep_list list (terms_list aware mandatory list nonce fit)) (terms_nonce aware mandatory list nonce fit) c q in
              rw (← p) at f
