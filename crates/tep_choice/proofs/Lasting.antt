-- A search from the end of the TEP list: for one that can be resumed, and for a candidate.
use Prim.Native.Nat.{ℕ, suc, ◌≤◌, ◌<◌}
use mathlib.Core.Path.{◌≡◌, refl, sym, ◌∙◌, ap, ap₂}
use mathlib.Core.List.{List}
use mathlib.Core.Bool.{Bool, true, false}
use mathlib.Core.Option.{Option, none, some}
use native.Mathlib.Omega.{arith}
use borrow.Author.Tests.{lt-ltb, le-ltb}
use lib.Dec.{ltb}
use lib.ListN.{length, get_or, take}
use Rattle.eno.specs.Cause.{numbered}
use Rattle.eno.specs.declared.SessionRecord.{SessionRecord}
use Rattle.suboptions.specs.declared.Entry.{Entry}
use Rattle.door.specs.Answer.{last_that, plain_for, with}
use Rattle.tep_choice.specs.Choosing.{chosen, entry_of, candidate_by, fitting_by, resumable_by, is_candidate_by, resumed_by, last_resumed, fresh_by, last_fresh}
use Rattle.tep_choice.specs.Laws.Listing.{last_none, last_here, last_later}

module _ (es : List Entry) (list : List ℕ) (i : ℕ) (passed : last_that (is_candidate_by es) list ≡ last_that (is_candidate_by es) (take i list)) where
  pub fresh_none : i ≡ 0 → (held : List SessionRecord) → plain_for (numbered 6) ≡ last_fresh es list held
  unfolding last_fresh fresh_by
  fresh_none z held = sym (rw (last_none (is_candidate_by es) list i passed z))

  module _ (j : ℕ) (next : i ≡ suc j) (within : i ≤ length list) (e : Entry) (of-it : e ≡ entry_of es (get_or list j 0)) (b : Bool) (is : b ≡ candidate_by e) where
    told : is_candidate_by es (get_or list j 0) ≡ b
    unfolding is_candidate_by
    told = ap candidate_by (sym of-it) ∙ sym is

    pub fresh_here : b ≡ true → (held : List SessionRecord) (n : ℕ) → n ≡ length held → with (chosen (get_or list j 0) n) ≡ last_fresh es list held
    unfolding last_fresh fresh_by
    fresh_here y held n q = sym (rw (last_here (is_candidate_by es) list i passed j next within (told ∙ y)) (ap (λ k. with (chosen (get_or list j 0) k)) (sym q)))

    pub fresh_later : b ≡ false → last_that (is_candidate_by es) list ≡ last_that (is_candidate_by es) (take j list)
    fresh_later y = last_later (is_candidate_by es) list i passed j next within (told ∙ y)

    pub fresh_before : b ≡ false → (held : List SessionRecord) → last_fresh es (take j list) held ≡ last_fresh es list held
    unfolding last_fresh
    fresh_before y held = ap (fresh_by held) (sym (fresh_later y))

module _ (o : List ℕ) (es : List Entry) (list : List ℕ) (held : List SessionRecord) (i : ℕ)
    (passed : last_that (resumable_by o es held) list ≡ last_that (resumable_by o es held) (take i list)) where
  pub resumed_none : i ≡ 0 → plain_for (numbered 6) ≡ last_resumed o es list held
  unfolding last_resumed resumed_by
  resumed_none z = sym (rw (last_none (resumable_by o es held) list i passed z))

  module _ (j : ℕ) (next : i ≡ suc j) (within : i ≤ length list) (e : Entry) (of-it : e ≡ entry_of es (get_or list j 0))
      (at : ℕ) (is : at ≡ fitting_by o (get_or list j 0) e held) where
    fits_at : at ≡ fitting_by o (get_or list j 0) (entry_of es (get_or list j 0)) held
    fits_at = is ∙ ap (λ x. fitting_by o (get_or list j 0) x held) of-it

    pub resumed_here : at < length held → with (chosen (get_or list j 0) at) ≡ last_resumed o es list held
    unfolding last_resumed resumed_by resumable_by
    resumed_here h =
        let y : ltb (fitting_by o (get_or list j 0) (entry_of es (get_or list j 0)) held) (length held) ≡ true = sym (ap (λ k. ltb k (length held)) fits_at) ∙ lt-ltb _ _ h in
        sym (rw (last_here (resumable_by o es held) list i passed j next within y) (ap (λ k. with (chosen (get_or list j 0) k)) (sym fits_at)))

    pub resumed_later : length held ≤ at → last_that (resumable_by o es held) list ≡ last_that (resumable_by o es held) (take j list)
    unfolding resumable_by
    resumed_later h =
        let y : ltb (fitting_by o (get_or list j 0) (entry_of es (get_or list j 0)) held) (length held) ≡ false = sym (ap (λ k. ltb k (length held)) fits_at) ∙ le-ltb _ _ h in
        last_later (resumable_by o es held) list i passed j next within y

    pub resumed_before : length held ≤ at → last_resumed o es (take j list) held ≡ last_resumed o es list held
    unfolding last_resumed
    resumed_before h = ap (resumed_by o es held) (sym (resumed_later h))
