-- The choice by the entries of A's option is the choice of the definitions.
use Rattle.std.specs.Prelude.{ℕ, zero, suc, ◌+◌, ◌-◌, ◌≤◌, ◌<◌, ◌≡◌, Bool, true, false, cond, not, ◌&&◌, ◌||◌, eqb, leb, length, get_or}
use Rattle.std.proofs.Math.Path.{refl, ap, ap₂}
use Rattle.std.proofs.Common.{sym, ◌∙◌, arith, eq-eqb, ne_eqb, lt-ltb, le-ltb, le-leb}
use mathlib.Core.List.{List, [], ◌∷◌}
use Rattle.std.proofs.lemmas.Bool.{false≢true, lt-leb}
use Rattle.std.proofs.Math.Option.{Option, none, some}
use Rattle.std.proofs.Math.Decide.{dec_lt}
use Rattle.std.proofs.Math.Dec.{ltb}
use Rattle.wire.specs.Bytes.{same_bytes}
use Rattle.eno.specs.Session.{expected_half}
use Rattle.eno.specs.Suboption.{Sent}
use Rattle.eno.specs.Judge.{is_fresh, is_bad, is_resumption, half_of, named, once, teps_of}
use Rattle.eno.specs.Option.{is_tep_list}
use Rattle.eno.specs.Laws.Walk.{Every}
use Rattle.eno.specs.Laws.Asked.{IsTep}
use Rattle.eno.specs.declared.SessionRecord.{SessionRecord}
use Rattle.suboptions.specs.Summary.{never, entry_from, entries_of, as_sent}
use Rattle.suboptions.proofs.Laws.{entry_of_lem, entry_times, entry_once}
use Rattle.suboptions.specs.declared.Entry.{Entry}
use Rattle.door.specs.Record.{first_that}
use Rattle.door.specs.Answer.{candidate, is_candidate, fitting_at, last_that, Choice, or_fresh, choose_tep, Answering, plain_for, with, chosen_or}
use Rattle.door_search.specs.Search.{expects}
use Rattle.tep_choice.specs.Choosing.{chosen, entry_of, candidate_by, fitting_by, resumable_by, is_candidate_by, resumed_by, last_resumed, fresh_by, last_fresh, first_or, chosen_by}
use Rattle.tep_choice.specs.Laws.Entry.{entry_there}
use Rattle.tep_choice.specs.Laws.Listing.{last_same, last_is}

not_long : (n : ℕ) → ltb n 18 ≡ not (leb 18 n)
not_long n = elim (dec_lt n 18) [
  | yes h ↦ simp (lt-ltb _ _ h, lt-leb _ _ h)
  | no h ↦ let k : 18 ≤ n = omega arith in simp (le-ltb _ _ k, le-leb _ _ k)
]

not_once : (e : Entry) → (e.times ≡ 1 → ⊥) → candidate_by e ≡ false
unfolding candidate_by
not_once e h = simp (ne_eqb _ _ h)

off_more : (x y : Sent) (l : List Sent) → candidate_by (entry_from never (x ∷ y ∷ l)) ≡ false
off_more x y l = not_once (entry_from never (x ∷ y ∷ l)) (λ e. let z = entry_times (x ∷ y ∷ l) in omega arith)

off_none : candidate_by (entry_from never []) ≡ false
off_none = not_once (entry_from never []) (λ e. let z = entry_times [] in omega arith)

-- an entry of a TEP that was sent once
abbrev once_as : Sent → Entry
once_as x = record { times = 1; byte = x.byte; start = x.start; len = x.len }

-- what the definitions make of what was sent exactly once
abbrev good_of : Option Sent → Option Sent
good_of none = none
good_of (some x) = cond (is_bad x) none (some x)

abbrev is_some_of : Option Sent → Bool
is_some_of none = false
is_some_of (some x) = true

once_good : (x : Sent) → candidate_by (once_as x) ≡ not (is_bad x)
unfolding candidate_by is_bad is_fresh
once_good x = refl

-- by how often the TEP was sent
candidate_by_lem : (l : List Sent) → candidate_by (entry_from never l) ≡ is_some_of (good_of (once l))
unfolding once
candidate_by_lem [] = off_none
candidate_by_lem (x ∷ y ∷ l) = off_more x y l
candidate_by_lem (x ∷ []) = ap candidate_by (entry_once x) ∙ (once_good x ∙ go (is_bad x))
  where
    go : (b : Bool) → not b ≡ is_some_of (cond b none (some x))
    go true = refl
    go false = refl

-- what is not bad and not fresh is resumption
resumption_is : (x : Sent) → is_bad x ≡ false → is_resumption x ≡ not (is_fresh x)
unfolding is_bad is_resumption
resumption_is x e = rw not_long (go (is_fresh x) (leb 18 x.len) e)
  where
    go : (f g : Bool) → not f && g ≡ false → not f && not g ≡ not f
    go true g e = refl
    go false true e = absurd (false≢true (sym e))
    go false false e = refl

abbrev expecting_of : List ℕ → ℕ → List SessionRecord → Option Sent → ℕ
expecting_of o t held none = length held
expecting_of o t held (some x) = cond (is_resumption x) (first_that (λ r. eqb r.tep t && same_bytes (expected_half r) (half_of o x)) held) (length held)

module _ (o : List ℕ) (t : ℕ) (held : List SessionRecord) where
  same_first : (x : Sent) → first_that (expects o t x.start) held ≡ first_that (λ r. eqb r.tep t && same_bytes (expected_half r) (half_of o x)) held
  unfolding expects half_of
  same_first x = refl

  fitting_off : (e : Entry) → candidate_by e ≡ false → fitting_by o t e held ≡ length held
  unfolding fitting_by
  fitting_off e h = simp h

  fitting_good : (e : Entry) → candidate_by e ≡ true → fitting_by o t e held ≡ cond (not (is_fresh (as_sent e))) (first_that (expects o t e.start) held) (length held)
  unfolding fitting_by
  fitting_good e h = simp h

  once_fresh : (x : Sent) → is_fresh (as_sent (once_as x)) ≡ is_fresh x
  unfolding is_fresh
  once_fresh x = refl

  fitting_once : (x : Sent) → fitting_by o t (once_as x) held ≡ expecting_of o t held (good_of (some x))
  fitting_once x = go (is_bad x) refl
    where
      go : (b : Bool) → is_bad x ≡ b → fitting_by o t (once_as x) held ≡ expecting_of o t held (cond b none (some x))
      go true e = fitting_off (once_as x) (once_good x ∙ (rw e))
      go false e = good (once_good x ∙ (rw e)) (resumption_is x e)
        where
          good : candidate_by (once_as x) ≡ true → is_resumption x ≡ not (is_fresh x) → fitting_by o t (once_as x) held ≡ expecting_of o t held (some x)
          good c r =
              fitting_good (once_as x) c
              ∙ (ap (λ b. cond b (first_that (expects o t x.start) held) (length held)) (ap not (once_fresh x) ∙ sym r)
              ∙ ap (λ n. cond (is_resumption x) n (length held)) (same_first x))

  fitting_by_lem : (l : List Sent) → fitting_by o t (entry_from never l) held ≡ expecting_of o t held (good_of (once l))
  unfolding once
  fitting_by_lem [] = fitting_off (entry_from never []) off_none
  fitting_by_lem (x ∷ y ∷ l) = fitting_off (entry_from never (x ∷ y ∷ l)) (off_more x y l)
  fitting_by_lem (x ∷ []) = ap (λ e. fitting_by o t e held) (entry_once x) ∙ fitting_once x

-- the entries of an option
module _ (o : List ℕ) where
  abbrev es : List Entry
  es = entries_of (teps_of o)

  entry_is : (t : ℕ) → IsTep t → entry_of es t ≡ entry_from never (named t (teps_of o))
  entry_is t h = sym (entry_there es t h.0 h.1) ∙ entry_of_lem (teps_of o) t h.0 h.1

  candidate_is : (t : ℕ) → IsTep t → is_candidate_by es t ≡ is_candidate o t
  unfolding is_candidate candidate is_candidate_by
  candidate_is t h = ap candidate_by (entry_is t h) ∙ candidate_by_lem (named t (teps_of o))

  module _ (held : List SessionRecord) where
    fitting_is : (t : ℕ) → IsTep t → fitting_by o t (entry_of es t) held ≡ fitting_at o t held
    unfolding fitting_at candidate
    fitting_is t h = ap (λ e. fitting_by o t e held) (entry_is t h) ∙ fitting_by_lem o t held (named t (teps_of o))

    resumable_is : (t : ℕ) → IsTep t → resumable_by o es held t ≡ ltb (fitting_at o t held) (length held)
    unfolding resumable_by
    resumable_is t h = ap (λ n. ltb n (length held)) (fitting_is t h)

    module _ (list : List ℕ) (all : Every IsTep list) where
      pub chosen_is : chosen_by o es list held ≡ chosen_or (choose_tep o list held)
      unfolding chosen_by last_resumed last_fresh choose_tep first_or resumed_by fresh_by
      chosen_is =
          ap₂ (λ m k. first_or (resumed_by o es held m) (fresh_by held k))
          (last_same IsTep (resumable_by o es held) (λ t. ltb (fitting_at o t held) (length held)) resumable_is list all)
          (last_same IsTep (is_candidate_by es) (is_candidate o) candidate_is list all)
          ∙ go (last_that (λ t. ltb (fitting_at o t held) (length held)) list) refl
        where
          fresh_is : (k : Option ℕ) → fresh_by held k ≡ chosen_or (elim k [ some t ↦ some (chosen t (length held)) | none ↦ none ])
          fresh_is (some t) = refl
          fresh_is none = refl

          go : (m : Option ℕ) → last_that (λ t. ltb (fitting_at o t held) (length held)) list ≡ m
              → first_or (resumed_by o es held m) (fresh_by held (last_that (is_candidate o) list)) ≡ chosen_or (or_fresh o list held m)
          go (some t) q = ap (λ j. with (chosen t j)) (fitting_is t (last_is IsTep (λ t. ltb (fitting_at o t held) (length held)) list all t q).0)
          go none q = fresh_is (last_that (is_candidate o) list)
