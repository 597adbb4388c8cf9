-- The record that an answer takes is of the TEP that is answered.
use Prim.Native.Nat.{ℕ, ◌≤◌, ◌<◌}
use mathlib.Core.Path.{◌≡◌, refl, sym, ◌∙◌}
use mathlib.Core.List.{List}
use mathlib.Core.Bool.{Bool, true, false, ◌&&◌}
use mathlib.Core.Option.{Option, none, some}
use native.Mathlib.Omega.{arith}
use borrow.Author.Tests.{eq-eqb, eqb-true, ltb-true, le-leb}
use lib.Dec.{eqb, ltb}
use lib.ListN.{length, get_or}
use Rattle.wire.specs.Bytes.{same_bytes}
use Rattle.eno.specs.Session.{expected_half}
use Rattle.eno.specs.Suboption.{Sent}
use Rattle.eno.specs.Judge.{is_resumption, half_of}
use Rattle.eno.specs.Option.{is_listed, record_listed, answer_fits}
use Rattle.eno.specs.Laws.Walk.{Every}
use Rattle.eno.proofs.Laws.Tep.{known_yes}
use Rattle.eno.specs.Laws.Asked.{IsTep}
use Rattle.eno.proofs.Laws.Asked.{and_true}
use Rattle.eno.specs.declared.SessionRecord.{SessionRecord}
use Rattle.door.specs.Record.{first_that, record_at, past_end}
use Rattle.door.specs.Answer.{candidate, is_candidate, fitting_at, last_that, Choice, or_fresh, choose_tep}
use Rattle.door.proofs.Laws.Choice.{first_passes}
use Rattle.tep_choice.specs.Laws.Listing.{last_is}
use Rattle.opening.specs.Laws.Taken.{taken_there, taken_none}

-- the record that fits the TEP t is of it
module _ (o : List ℕ) (t : ℕ) (held : List SessionRecord) where
  of_the_tep : (m : Option Sent) → candidate o t ≡ m → (j : ℕ) → j ≡ fitting_at o t held → j < length held → (get_or held j past_end).tep ≡ t
  unfolding fitting_at
  of_the_tep none q j e h = let z : fitting_at o t held ≡ length held = rw q in absurd (omega arith)
  of_the_tep (some x) q j e h = go (is_resumption x) refl
    where
      test : SessionRecord → Bool
      test r = eqb r.tep t && same_bytes (expected_half r) (half_of o x)

      go : (b : Bool) → is_resumption x ≡ b → (get_or held j past_end).tep ≡ t
      go false p = let z : fitting_at o t held ≡ length held = rw (q, p) in absurd (omega arith)
      go true p =
          let z : fitting_at o t held ≡ first_that (λ r. eqb r.tep t && same_bytes (expected_half r) (half_of o x)) held = rw (q, p) in
          let f = first_passes (λ r. eqb r.tep t && same_bytes (expected_half r) (half_of o x)) held (let y = e ∙ z in omega arith) in
          let g = rw (← e ∙ z) at f in
          eqb-true _ _ (and_true _ _ g).0

module _ (o list nonce : List ℕ) (held : List SessionRecord) (all : Every IsTep list) (eight : length nonce ≤ 8) where
  fits_none : (t : ℕ) → IsTep t → (j : ℕ) → length held ≤ j → answer_fits t (record_at held j) nonce ≡ true
  unfolding answer_fits record_listed
  fits_none t k j h = rw (taken_none held j h) (simp (sym (known_yes t k.0 k.1), le-leb _ _ eight))

  fits_record : (t : ℕ) → IsTep t → (j : ℕ) → j < length held → (get_or held j past_end).tep ≡ t → answer_fits t (record_at held j) nonce ≡ true
  unfolding answer_fits record_listed is_listed
  fits_record t k j h e = rw (taken_there held j h) (simp (sym (known_yes t k.0 k.1), le-leb _ _ eight, eq-eqb _ _ (sym e)))

  choice_fits : (m : Option ℕ) → last_that (λ t. ltb (fitting_at o t held) (length held)) list ≡ m → (c : Choice) → or_fresh o list held m ≡ some c
      → answer_fits c.tep (record_at held c.at) nonce ≡ true
  choice_fits (some t) q c e =
      let p : t ≡ c.tep = cc in
      let r : fitting_at o t held ≡ c.at = cc in
      let k = last_is IsTep (λ t. ltb (fitting_at o t held) (length held)) list all t q in
      rw (← p, ← r) (fits_record t k.0 (fitting_at o t held) (ltb-true _ _ k.1) (of_the_tep o t held (candidate o t) refl (fitting_at o t held) refl (ltb-true _ _ k.1)))
  choice_fits none q c e = go (last_that (is_candidate o) list) refl e
    where
      go : (k : Option ℕ) → last_that (is_candidate o) list ≡ k
          → ◌≡◌ {A = Option Choice} (elim k [ some t ↦ some (record { tep = t; at = length held }) | none ↦ none ]) (some c)
          → answer_fits c.tep (record_at held c.at) nonce ≡ true
      go (some t) p e =
          let u : t ≡ c.tep = cc in
          let v : length held ≡ c.at = cc in
          rw (← u, ← v) (fits_none t (last_is IsTep (is_candidate o) list all t p).0 (length held) (omega arith))
      go none p e = let z : ◌≡◌ {A = ℕ} 0 1 = cc in absurd (omega arith)

  pub chosen_fits : (c : Choice) → choose_tep o list held ≡ some c → answer_fits c.tep (record_at held c.at) nonce ≡ true
  unfolding choose_tep
  chosen_fits c e = choice_fits (last_that (λ t. ltb (fitting_at o t held) (length held)) list) refl c e
