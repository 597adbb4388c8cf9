-- The outcomes of an offer, by the tests that lead to each.
use Prim.Native.Nat.{ℕ, ◌≤◌, ◌<◌}
use mathlib.Core.Path.{◌≡◌, sym, ◌∙◌}
use mathlib.Core.List.{List}
use mathlib.Core.Bool.{Bool, true, false}
use borrow.Author.Tests.{lt-ltb, le-ltb, le-leb, lt-leb}
use lib.ListN.{length}
use Rattle.eno.specs.Option.{offered, option_with}
use Rattle.door.specs.Door.{Seen, phase_of}
use Rattle.door.specs.Record.{record_at}
use Rattle.door.specs.Outcome.{Effect, refused, written, keep, refusal, unless}
use Rattle.door.specs.Offer.{is_idle, terms_fit, offered_at, offered_door, offer}
use Rattle.door.specs.Answers.{outcome_as}
use Rattle.door.specs.declared.Door.{Door}
use Rattle.opening.specs.Steps.{taking}
use Rattle.opening.specs.Laws.Writing.{Wrote}
use Rattle.opening.specs.Laws.Outcomes.{outcome_is}
use Rattle.offering.specs.Steps.{proposed}

-- an offer whose arguments fit
module _ (v : Seen) (b : ℕ) (aware mandatory : Bool) (list : List ℕ) (j : ℕ) (nonce s : List ℕ) where
  pub proposed_over : length s < length (option_with (offered b aware list (record_at v.held j) nonce)) → (t : List ℕ) → t ≡ s
      → outcome_as (refused 5) t v.door keep ≡ proposed v b aware mandatory list j nonce s
  unfolding proposed refusal unless
  proposed_over h t e = rw e (simp (lt-ltb _ _ h))

  pub proposed_option : (k : ℕ) (t : List ℕ) → Wrote (offered b aware list (record_at v.held j) nonce) s k t
      → (d : Door) → d ≡ offered_door (option_with (offered b aware list (record_at v.held j) nonce)) mandatory (record_at v.held j)
      → (f : Effect) → f ≡ taking (length v.held) j
      → outcome_as (written k) t d f ≡ proposed v b aware mandatory list j nonce s
  unfolding proposed refusal unless
  proposed_option k t w d p f q =
      outcome_is k _ t _ d _ f _ w.counted w.bytes p q ∙ sym (simp (le-ltb _ _ w.room))

-- the tests of an offer, lowest number first
module _ (v : Seen) (b : ℕ) (aware mandatory : Bool) (list : List ℕ) (resume : Bool) (nonce s : List ℕ) where
  pub offer_role : 1 < b → outcome_as (refused 3) s v.door keep ≡ offer v b aware mandatory list resume nonce s
  unfolding offer refusal unless
  offer_role h = simp (lt-leb _ _ h)

  module _ (one : b ≤ 1) where
    pub offer_terms : terms_fit aware mandatory list nonce ≡ false → outcome_as (refused 3) s v.door keep ≡ offer v b aware mandatory list resume nonce s
    unfolding offer refusal unless
    offer_terms e = simp (le-leb _ _ one, e)

    module _ (fit : terms_fit aware mandatory list nonce ≡ true) where
      pub offer_turn : is_idle (phase_of v.door.phase) ≡ false → outcome_as (refused 4) s v.door keep ≡ offer v b aware mandatory list resume nonce s
      unfolding offer refusal unless
      offer_turn e = simp (le-leb _ _ one, fit, e)

      pub offer_goes : is_idle (phase_of v.door.phase) ≡ true → (j : ℕ) → j ≡ offered_at resume list v.held
          → proposed v b aware mandatory list j nonce s ≡ offer v b aware mandatory list resume nonce s
      unfolding offer proposed taking refusal
      offer_goes e j q = rw q (simp (le-leb _ _ one, fit, e))
