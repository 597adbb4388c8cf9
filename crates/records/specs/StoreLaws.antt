-- Laws of store: the outcomes, in the order of the tests. Assumes nothing.
use Rattle.std.specs.Prelude.{ℕ, ◌≤◌, ◌<◌, ◌≡◌, List, [], Bool, true, false, length, Result, Ok}
use Rattle.std.proofs.Common.{◌∙◌}
use Rattle.std.proofs.Math.Path.{ap}
use borrow.Author.Tests.{le-leb, lt-leb, lt-ltb, le-ltb}
use Rattle.eno.specs.Session.{in_hand}
use Rattle.eno.specs.declared.SessionRecord.{SessionRecord}
use Rattle.door.specs.Numbers.{each_n}
use Rattle.door.specs.Record.{first_that, is_session}
use Rattle.door.specs.Door.{Seen}
use Rattle.door.specs.Outcome.{Outcome, done, add, refuse, refusal, unless}
use Rattle.door.specs.Records.{is_held, is_in_hand, is_record, store}
use Rattle.door.specs.Answers.{refusal_number, outcome_as, beside}
use Rattle.door.specs.declared.Door.{Door}
use Rattle.door.specs.declared.Refusal.{Refusal}
use Rattle.records.specs.Answers.{refused_store, StoresAs}

-- whether a record is held, by the search for it
module _ (t : ℕ) (identifier : List ℕ) (l : List SessionRecord) where
  pub is_held_lem : first_that (is_session t identifier) l < length l → is_held t identifier l ≡ true
  unfolding is_held
  is_held_lem h = lt-ltb _ _ h

  pub is_not_held : length l ≤ first_that (is_session t identifier) l → is_held t identifier l ≡ false
  unfolding is_held
  is_not_held h = le-ltb _ _ h

-- a record by its fields
abbrev pub session_of : (t role : ℕ) (identifier secret : List ℕ) → SessionRecord
session_of t role identifier secret = record { tep = t; role = role; identifier = identifier; secret = secret }

module _ (free : Bool) (v : Seen) (t role : ℕ) (identifier secret : List ℕ) where
  pub store_unfit : is_record t role identifier secret ≡ false → refuse 3 v.door [] ≡ store free v t role identifier secret
  unfolding store refusal unless
  store_unfit e = simp e

  module _ (fit : is_record t role identifier secret ≡ true) where
    pub store_full : each_n ≤ length v.held → refuse 6 v.door [] ≡ store free v t role identifier secret
    unfolding store refusal unless
    store_full h = simp (fit, le-leb _ _ h)

    module _ (room : length v.held < each_n) where
      pub store_no_row : free ≡ false → refuse 6 v.door [] ≡ store free v t role identifier secret
      unfolding store refusal unless
      store_no_row e = simp (fit, lt-leb _ _ room, e)

      module _ (row : free ≡ true) where
        pub store_held : is_held t identifier v.held ≡ true → refuse 7 v.door [] ≡ store free v t role identifier secret
        unfolding store refusal unless
        store_held e = simp (fit, lt-leb _ _ room, row, e)

        module _ (new : is_held t identifier v.held ≡ false) where
          pub store_in_hand : is_in_hand t identifier (in_hand v.door.hand) ≡ true → refuse 7 v.door [] ≡ store free v t role identifier secret
          unfolding store refusal unless
          store_in_hand e = simp (fit, lt-leb _ _ room, row, new, e)

          pub store_adds : is_in_hand t identifier (in_hand v.door.hand) ≡ false → outcome_as done [] v.door (add (session_of t role identifier secret)) ≡ store free v t role identifier secret
          unfolding store refusal unless
          store_adds e = simp (fit, lt-leb _ _ room, row, new, e)

-- what the code answers, by the outcome
module _ (d : Door) (o : Outcome) where
  pub stores_nothing : (why : Refusal) (r : Result SessionRecord Refusal) → r ≡ refused_store why → refuse (refusal_number why) d [] ≡ o → StoresAs r d o
  unfolding refused_store
  stores_nothing why r z e = rw z (record { outcome = e; added = ap (λ (x : Outcome). beside x.effect) e })

  pub stores_one : (r s : SessionRecord) → r ≡ s → outcome_as done [] d (add s) ≡ o → StoresAs (Ok r) d o
  stores_one r s z e =
      record {
        outcome = ap (λ (x : SessionRecord). outcome_as done [] d (add x)) z ∙ e;
        added = z ∙ ap (λ (x : Outcome). beside x.effect) e;
      }
