-- An effect carried out in place: the row first, then the door.
use Rattle.std.specs.Prelude.{◌≡◌, Bool, Option, Some, None, ℕ, ◌+◌, ◌≤◌, ◌<◌, length, get_or, set, take}
use Rattle.std.proofs.Math.Path.{refl, sym, ap, ap₂}
use Rattle.std.proofs.Common.{◌∙◌, arith}
use Rattle.std.proofs.Math.Bool.{true, false, cond}
use mathlib.Core.List.{List, []}
use borrow.Author.Tests.{lt-ltb, ltb-true, ltb-false}
use Rattle.std.proofs.Math.Dec.{ltb}
use Rattle.std.proofs.lemmas.List.{length-map}
use Rattle.std.proofs.Math.ListN.{length-take, get_or-eq_default}
use Rattle.std.proofs.Math.Seq.{set_out, take_all}
use Rattle.eno.specs.declared.SessionRecord.{SessionRecord}
use Rattle.door.specs.Numbers.{each_n}
use Rattle.door.specs.Door.{no_session}
use Rattle.door.specs.Answers.{effect_of}
use Rattle.door.specs.declared.Change.{Change}
use Rattle.door.specs.declared.Door.{Door}
use Rattle.unit.specs.Numbers.{doors_n, rows_n, words_n}
use Rattle.unit.specs.Marks.{marks_in, with_mark, mark_for}
use Rattle.unit.specs.Unit.{position_at, first_free, lowest_free}
use Rattle.unit.proofs.Laws.Marks.{mark_past}
use Rattle.unit.specs.declared.Position.{Position}
use Rattle.unit.specs.declared.LinkUnit.{LinkUnit}
use Rattle.unit_bytes.specs.Content.{record_in, row_of, bytes_of, rows_in, unit_in}
use Rattle.unit_bytes.specs.Whole.{unit_of}
use Rattle.unit_bytes.proofs.Whole.{row_in, row_put, door_put}
use Rattle.row_list.specs.Listed.{listing_of, listed_row, listed_used, session_after}
use Rattle.row_list.specs.declared.Listing.{Listing}
use Rattle.pool.specs.Carried.{enact_fit, takes_row}
use Rattle.pool.specs.Placed.{position_from, PutRow, position_of, Enacts}
use Rattle.pool.proofs.PlacedLaws.{position_from_lem}
use Rattle.pool.specs.Carrying.{row_stored}
use Rattle.pool.proofs.Carrying.{past_doors, fit_carried, unfit_carried}

pub rows_few : (rows : List (List ℕ)) → length (rows_in rows) ≤ rows_n
rows_few rows = omega (arith, length-map (take rows_n rows) record_in, length-take rows_n rows)

-- a row read, and one past the last
pub record_past : (rows : List (List ℕ)) (i : ℕ) (s : SessionRecord) → rows_n ≤ i → s ≡ no_session → s ≡ get_or (rows_in rows) i no_session
record_past rows i s h e = e ∙ sym (get_or-eq_default (rows_in rows) no_session {n = i} (omega (arith, rows_few rows)))

pub record_there : (rows : List (List ℕ)) (i : ℕ) (s : SessionRecord) → i < rows_n → s ≡ record_in (get_or rows i []) → s ≡ get_or (rows_in rows) i no_session
unfolding unit_in
record_there rows i s h e = e ∙ sym (row_in [] rows [] i h)

module _ (marks : List ℕ) (rows doors : List (List ℕ)) where
  -- the row is stored, or there is none
  pub row_stored_lem : (marks' : List ℕ) (rows' : List (List ℕ)) (n : Option Listing) (s : SessionRecord) → PutRow marks marks' rows rows' (listed_row n) (listed_used n) s → unit_in marks' rows' doors ≡ row_stored (unit_in marks rows doors) n s
  unfolding unit_in
  row_stored_lem marks' rows' n s p = go (ltb (listed_row n) rows_n) refl
    where
      go : (b : Bool) → ltb (listed_row n) rows_n ≡ b → unit_in marks' rows' doors ≡ row_stored (unit_in marks rows doors) n s
      go true e =
          ap₂ (λ (o : List ℕ) (r : List (List ℕ)). unit_in o r doors)
          (p.marked ∙ ap (λ (b : Bool). cond b (with_mark marks (listed_row n) (mark_for (listed_used n))) marks) e)
          (p.placed ∙ ap (λ (b : Bool). cond b (set rows (listed_row n) (row_of s)) rows) e)
          ∙ row_put marks rows doors (listed_row n) (mark_for (listed_used n)) (row_of s) s (ltb-true _ _ e) p.says
      go false e =
          let past : rows_n ≤ listed_row n = ltb-false _ _ e in
          ap₂ (λ (o : List ℕ) (r : List (List ℕ)). unit_in o r doors)
          (p.marked ∙ ap (λ (b : Bool). cond b (with_mark marks (listed_row n) (mark_for (listed_used n))) marks) e)
          (p.placed ∙ ap (λ (b : Bool). cond b (set rows (listed_row n) (row_of s)) rows) e)
          ∙ sym (ap₂ (λ (o : List ℕ) (r : List SessionRecord). unit_of o r (unit_in marks rows doors).doors)
          (mark_past (take words_n marks) (listed_row n) (mark_for (listed_used n)) (omega (arith, length-take words_n marks)) past)
          (set_out (rows_in rows) (listed_row n) s (omega (arith, rows_few rows))))

  -- the effect is carried out, where the position is the door's and the row for a record that is added the lowest free one
  module _ (marks' : List ℕ) (rows' doors' : List (List ℕ)) (d : ℕ) (x : Position) (free : ℕ) (l : Door) (c : Change) (r : SessionRecord) (does : Enacts marks marks' rows rows' doors doors' d x free l c r)
      (read : x ≡ position_from doors d) (lowest : takes_row c ≡ true → (length marks ≡ words_n) × (free ≡ first_free (marks_in marks))) where
    abbrev n : Option Listing
    n = listing_of x free c

    abbrev u : LinkUnit
    u = unit_in marks rows doors

    module _ (ours : d < doors_n) where
      here : x ≡ position_at u d
      here = read ∙ position_from_lem marks rows doors d ours

      few_marks : length u.marks ≤ words_n
      unfolding unit_in
      few_marks = omega (arith, length-take words_n marks)

      few_rows : length u.rows ≤ rows_n
      unfolding unit_in
      few_rows = rows_few rows

      all : length marks ≡ words_n → u.marks ≡ marks
      unfolding unit_in
      all e = take_all words_n marks (omega arith)

      lowest_in : takes_row c ≡ true → free ≡ lowest_free u
      lowest_in t = let h = lowest t in h.1 ∙ ap (λ (words : List ℕ). first_free (marks_in words)) (sym (all h.0))

      size : length (position_at u d).rows ≡ each_n
      size = ap (λ (y : Position). length y.rows) (sym here) ∙ does.size ours

      row : unit_in marks' rows' doors ≡ row_stored u (listing_of (position_at u d) free c) (session_after c r)
      row = row_stored_lem marks' rows' n (session_after c r) (does.row ours) ∙ ap (λ (y : Position). row_stored u (listing_of y free c) (session_after c r)) here

      at : (m : Option Listing) → n ≡ m → unit_in marks' rows' doors' ≡ enact_fit u d l (effect_of c r)
      at (Some m) e =
          let put = does.fit ours m e in
          let there = bytes_of (get_or doors d []) (position_of l m.count m.numbers) in
          ap (unit_in marks' rows') (put.placed ∙ ap (λ (b : Bool). cond b (set doors d there) doors) (lt-ltb d doors_n ours))
          ∙ (door_put marks' rows' doors d there (position_of l m.count m.numbers) ours (put.says ours)
          ∙ fit_carried u few_marks few_rows d l ours size c r free (unit_in marks' rows' doors) lowest_in row m (ap (λ (y : Position). listing_of y free c) (sym here) ∙ e))
      at None e =
          ap (unit_in marks' rows') (does.unfit ours e)
          ∙ unfit_carried u few_marks few_rows d l ours size c r free (unit_in marks' rows' doors) lowest_in row (ap (λ (y : Position). listing_of y free c) (sym here) ∙ e)

    pub enacts_carried : unit_in marks' rows' doors' ≡ enact_fit (unit_in marks rows doors) d l (effect_of c r)
    enacts_carried = go (ltb d doors_n) refl
      where
        go : (b : Bool) → ltb d doors_n ≡ b → unit_in marks' rows' doors' ≡ enact_fit (unit_in marks rows doors) d l (effect_of c r)
        go true e = at (ltb-true _ _ e) n refl
        go false e =
            let same = does.past (ltb-false _ _ e) in
            (λ i. unit_in (same.marks_same i) (same.rows_same i) (same.doors_same i)) ∙ past_doors u d l (effect_of c r) (ltb-false _ _ e)
