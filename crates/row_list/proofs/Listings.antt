-- A door's list after a change, case by case, as the code makes it.
use Rattle.std.specs.Prelude.{Option, ◌⊎◌}
use Rattle.std.proofs.Common.{inl, inr}
use mathlib.Core.Path.{◌≡◌, sym, ap, ◌∙◌}
use mathlib.Core.Bool.{true, false}
use mathlib.Core.List.{List, [], ◌∷◌, ◌++◌}
use Prim.Native.Nat.{ℕ, suc, ◌-◌, ◌≤◌, ◌<◌}
use borrow.Author.Tests.{lt-ltb, le-ltb}
use lib.ListN.{get_or, set}
use Rattle.eno.specs.declared.SessionRecord.{SessionRecord}
use Rattle.door.specs.Numbers.{each_n}
use Rattle.door.specs.Door.{no_session}
use Rattle.door.specs.Calls.{cut}
use Rattle.door.specs.declared.Change.{Change}
use Rattle.door.specs.declared.Change.TheVariants as change
use Rattle.unit.specs.Numbers.{rows_n}
use Rattle.unit.specs.Unit.{count_of}
use Rattle.unit.specs.declared.Position.{Position}
use Rattle.row_list.specs.Listed.{listed, still, unfit, longer, shorter, listing_of, session_after}
use Rattle.row_list.specs.declared.Listing.{Listing}

module _ (numbers : List ℕ) (n : ℕ) where
  -- one row more
  module _ (row : ℕ) where
    pub too_many : each_n ≤ n → unfit ≡ longer numbers n row
    unfolding longer
    too_many h = rw (le-ltb n each_n h)

    module _ (few : n < each_n) where
      pub none_free : rows_n ≤ row → unfit ≡ longer numbers n row
      unfolding longer
      none_free h = rw (lt-ltb n each_n few, le-ltb row rows_n h)

      pub one_more : (count : ℕ) → row < rows_n → count ≡ suc n → listed row true count (set numbers n row) ≡ longer numbers n row
      unfolding longer
      one_more count h e = rw (e, lt-ltb n each_n few, lt-ltb row rows_n h)

    -- no place, or no row
    pub no_place : (each_n ≤ n) ⊎ ((n < each_n) × (rows_n ≤ row)) → unfit ≡ longer numbers n row
    no_place (inl h) = too_many h
    no_place (inr h) = none_free h.0 h.1

  -- one row less
  module _ (j : ℕ) where
    pub not_listed : n ≤ j → unfit ≡ shorter numbers n j
    unfolding shorter
    not_listed h = rw (le-ltb j n h)

    pub one_less : (row count : ℕ) (left : List ℕ) → j < n → row ≡ get_or numbers j 0 → count ≡ n - 1 → left ≡ cut j numbers ++ 0 ∷ [] → listed row false count left ≡ shorter numbers n j
    unfolding shorter
    one_less row count left h e f g = rw (e, f, g, lt-ltb j n h)

-- the three changes
module _ (x : Position) (free : ℕ) (c : Change) where
  pub list_kept : c ≡ change.Keep → still x.count x.rows ≡ listing_of x free c
  unfolding listing_of
  list_kept e = rw e

  module _ (n : ℕ) (r : Option Listing) (counted : n ≡ count_of x) where
    pub list_longer : c ≡ change.Add → r ≡ longer x.rows n free → r ≡ listing_of x free c
    unfolding listing_of
    list_longer e f = f ∙ rw (e, counted)

    pub list_shorter : (j : ℕ) → c ≡ change.Remove j → r ≡ shorter x.rows n j → r ≡ listing_of x free c
    unfolding listing_of
    list_shorter j e f = f ∙ rw (e, counted)

-- the record of the row that is taken or freed
module _ (c : Change) (r : SessionRecord) where
  pub session_kept : c ≡ change.Keep → r ≡ session_after c r
  unfolding session_after
  session_kept e = rw e

  pub session_added : c ≡ change.Add → r ≡ session_after c r
  unfolding session_after
  session_added e = rw e

  pub session_stays : (c ≡ change.Keep) ⊎ (c ≡ change.Add) → r ≡ session_after c r
  session_stays (inl e) = session_kept e
  session_stays (inr e) = session_added e

  pub session_freed : (j : ℕ) (zeros : SessionRecord) → c ≡ change.Remove j → zeros ≡ no_session → zeros ≡ session_after c r
  unfolding session_after
  session_freed j zeros e f = f ∙ rw e
