-- An effect carried out: what the code makes of marks, rows and the door is what the definition says.
use Rattle.std.specs.Prelude.{◌≡◌, Bool, cond, ◌&&◌, Option, Some, None, List, [], ◌∷◌, ◌++◌, ℕ, suc, ◌+◌, ◌-◌, ◌≤◌, ◌<◌, length, get_or, set}
use Rattle.std.proofs.Math.Path.{refl, sym, ap}
use Rattle.std.proofs.Common.{ap₂, ◌∙◌, get_or-take}
use Rattle.std.proofs.Math.Bool.{true, false}
use native.Mathlib.Omega.{arith}
use borrow.Author.Tests.{lt-ltb, le-ltb, ltb-true, ltb-false}
use Rattle.std.proofs.Math.Dec.{ltb}
use Rattle.std.proofs.Math.ListN.{length-map}
use Rattle.std.proofs.Math.Seq.{set_out, length-take-le}
use Rattle.eno.specs.declared.SessionRecord.{SessionRecord}
use Rattle.door.specs.Numbers.{each_n}
use Rattle.door.specs.Door.{no_session}
use Rattle.door.specs.Outcome.{Effect, keep, add, remove}
use Rattle.door.specs.Answers.{effect_of}
use Rattle.door.specs.Calls.{cut}
use Rattle.door.specs.declared.Change.{Change}
use Rattle.door.specs.declared.Change.TheVariants as change
use Rattle.door.specs.declared.Door.{Door}
use Rattle.unit.specs.Numbers.{doors_n, rows_n, words_n}
use Rattle.unit.specs.Marks.{with_mark, mark_for}
use Rattle.unit.specs.Unit.{position_at, count_of, mine, records_at, view, lowest_free, marks_after, rows_after, position_after, enact}
use Rattle.unit.proofs.Laws.Marks.{mark_past}
use Rattle.unit.specs.declared.Position.{Position}
use Rattle.unit.specs.declared.LinkUnit.{LinkUnit}
use Rattle.unit_bytes.specs.Whole.{unit_of}
use Rattle.pool.specs.Carried.{fits, enact_fit, takes_row}
use Rattle.pool.specs.Placed.{position_of}
use Rattle.row_list.specs.Listed.{listed, unfit, longer, shorter, listing_of, listed_row, listed_used, session_after}
use Rattle.row_list.specs.declared.Listing.{Listing}
use Rattle.pool.specs.Carrying.{row_stored, door_stored, stored}

module _ (u : LinkUnit) (d : ℕ) (l : Door) where
  -- no door of the unit
  pub past_doors : (e : Effect) → doors_n ≤ d → u ≡ enact_fit u d l e
  unfolding enact_fit fits
  past_doors keep h = rw (le-ltb d doors_n h)
  past_doors (add r) h = rw (le-ltb d doors_n h)
  past_doors (remove j) h = rw (le-ltb d doors_n h)

  module _ (ours : d < doors_n) where
    pub keeps : unit_of u.marks u.rows (set u.doors d (position_of l (position_at u d).count (position_at u d).rows)) ≡ enact_fit u d l keep
    unfolding enact_fit fits enact marks_after rows_after position_after
    keeps = rw (lt-ltb d doors_n ours)

  module _ (ours : d < doors_n) (size : length (position_at u d).rows ≡ each_n) where
    held_count : length (view u d).held ≡ count_of (position_at u d)
    unfolding records_at
    held_count = length-map (mine (position_at u d)) _ ∙ length-take-le (count_of (position_at u d)) (position_at u d).rows (omega arith)

    -- a record more
    module _ (r : SessionRecord) where
      pub full : each_n ≤ count_of (position_at u d) → u ≡ enact_fit u d l (add r)
      unfolding enact_fit fits
      full h = rw (lt-ltb d doors_n ours, held_count, le-ltb (count_of (position_at u d)) each_n h)

      module _ (few : count_of (position_at u d) < each_n) where
        pub no_row : rows_n ≤ lowest_free u → u ≡ enact_fit u d l (add r)
        unfolding enact_fit fits
        no_row h = rw (lt-ltb d doors_n ours, held_count, lt-ltb (count_of (position_at u d)) each_n few, le-ltb (lowest_free u) rows_n h)

        pub adds : (row n next : ℕ) → row ≡ lowest_free u → row < rows_n → n ≡ count_of (position_at u d) → next ≡ suc n
            → unit_of (with_mark u.marks row 1) (set u.rows row r) (set u.doors d (position_of l next (set (position_at u d).rows n row))) ≡ enact_fit u d l (add r)
        unfolding enact_fit fits enact marks_after rows_after position_after
        adds row n next e free f k =
            let h : lowest_free u < rows_n = omega arith in
            rw (k, f, e, lt-ltb d doors_n ours, held_count, lt-ltb (count_of (position_at u d)) each_n few, lt-ltb (lowest_free u) rows_n h)

    -- a record less
    module _ (j : ℕ) where
      pub not_held_lem : count_of (position_at u d) ≤ j → u ≡ enact_fit u d l (remove j)
      unfolding enact_fit fits
      not_held_lem h = rw (lt-ltb d doors_n ours, held_count, le-ltb j (count_of (position_at u d)) h)

      module _ (held : j < count_of (position_at u d)) where
        row_listed : get_or (mine (position_at u d)) j 0 ≡ get_or (position_at u d).rows j 0
        row_listed = get_or-take (count_of (position_at u d)) (position_at u d).rows j 0 held

        pub removes : (row next : ℕ) → row ≡ get_or (position_at u d).rows j 0 → next ≡ count_of (position_at u d) - 1
            → unit_of (with_mark u.marks row 0) (set u.rows row no_session) (set u.doors d (position_of l next (cut j (position_at u d).rows ++ 0 ∷ []))) ≡ enact_fit u d l (remove j)
        unfolding enact_fit fits enact marks_after rows_after position_after
        removes row next e f = rw (f, e, lt-ltb d doors_n ours, held_count, lt-ltb j (count_of (position_at u d)) held, row_listed)

module _ (u : LinkUnit) (words_size : length u.marks ≤ words_n) (rows_size : length u.rows ≤ rows_n) where
  -- no row
  pub no_row_stored : (row mark : ℕ) (s : SessionRecord) (doors : List Position) → rows_n ≤ row → unit_of u.marks u.rows doors ≡ unit_of (with_mark u.marks row mark) (set u.rows row s) doors
  no_row_stored row mark s doors h =
      sym (ap₂ (λ (marks : List ℕ) (rows : List SessionRecord). unit_of marks rows doors) (mark_past u.marks row mark words_size h) (set_out u.rows row s (omega arith)))

  module _ (d : ℕ) (l : Door) (ours : d < doors_n) (size : length (position_at u d).rows ≡ each_n) where
    unfit_stored : (s : SessionRecord) → stored u d l unfit s ≡ u
    unfolding mark_for
    unfit_stored s = sym (no_row_stored rows_n 0 s u.doors (omega arith))

    -- the effect is carried out, if the row for a record that is added is the lowest free one
    pub carried : (c : Change) (r : SessionRecord) (free : ℕ) → (takes_row c ≡ true → free ≡ lowest_free u)
        → stored u d l (listing_of (position_at u d) free c) (session_after c r) ≡ enact_fit u d l (effect_of c r)
    unfolding listing_of session_after longer shorter takes_row mark_for
    carried change.Keep r free h = sym (no_row_stored rows_n 0 r _ (omega arith)) ∙ keeps u d l ours
    carried change.Add r free h =
        ap (λ (i : ℕ). stored u d l (cond (ltb (count_of (position_at u d)) each_n && ltb i rows_n) (listed i true (suc (count_of (position_at u d))) (set (position_at u d).rows (count_of (position_at u d)) i)) unfit) r) (h refl)
        ∙ go (ltb (count_of (position_at u d)) each_n) refl (ltb (lowest_free u) rows_n) refl
      where
        go : (b : Bool) → ltb (count_of (position_at u d)) each_n ≡ b → (f : Bool) → ltb (lowest_free u) rows_n ≡ f
            → stored u d l (cond (b && f) (listed (lowest_free u) true (suc (count_of (position_at u d))) (set (position_at u d).rows (count_of (position_at u d)) (lowest_free u))) unfit) r
            ≡ enact_fit u d l (add r)
        go false e f g = unfit_stored r ∙ full u d l ours size r (ltb-false _ _ e)
        go true e false g =
            let past : rows_n ≤ lowest_free u = ltb-false _ _ g in
            unfit_stored r ∙ no_row u d l ours size r (ltb-true _ _ e) past
        go true e true g =
            let within : lowest_free u < rows_n = ltb-true _ _ g in
            adds u d l ours size r (ltb-true _ _ e) (lowest_free u) (count_of (position_at u d)) (suc (count_of (position_at u d))) refl within refl refl
    carried (change.Remove j) r free h = go (ltb j (count_of (position_at u d))) refl
      where
        go : (b : Bool) → ltb j (count_of (position_at u d)) ≡ b
            → stored u d l (cond b (listed (get_or (position_at u d).rows j 0) false (count_of (position_at u d) - 1) (cut j (position_at u d).rows ++ 0 ∷ [])) unfit) no_session
            ≡ enact_fit u d l (remove j)
        go false e = unfit_stored no_session ∙ not_held_lem u d l ours size j (ltb-false _ _ e)
        go true e = removes u d l ours size j (ltb-true _ _ e) (get_or (position_at u d).rows j 0) (count_of (position_at u d) - 1) refl refl

    -- as the code goes: the row first, then the position
    module _ (c : Change) (r : SessionRecord) (free : ℕ) (v : LinkUnit) (lowest : takes_row c ≡ true → free ≡ lowest_free u)
        (row : v ≡ row_stored u (listing_of (position_at u d) free c) (session_after c r)) where
      abbrev n : Option Listing
      n = listing_of (position_at u d) free c

      abbrev s : SessionRecord
      s = session_after c r

      abbrev moved : Option Listing → LinkUnit
      moved m = unit_of (with_mark u.marks (listed_row n) (mark_for (listed_used n))) (set u.rows (listed_row n) s) (door_stored u.doors d l m)

      pub fit_carried : (m : Listing) → n ≡ Some m → unit_of v.marks v.rows (set v.doors d (position_of l m.count m.numbers)) ≡ enact_fit u d l (effect_of c r)
      fit_carried m e = ap (λ (w : LinkUnit). unit_of w.marks w.rows (set w.doors d (position_of l m.count m.numbers))) row ∙ (ap moved (sym e) ∙ carried c r free lowest)

      pub unfit_carried : n ≡ None → v ≡ enact_fit u d l (effect_of c r)
      unfit_carried e = row ∙ (ap moved (sym e) ∙ carried c r free lowest)
