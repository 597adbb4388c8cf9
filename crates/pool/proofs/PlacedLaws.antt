-- Laws of a door or a row in its place: how the code's ways lead to it, and that no other door is touched. Assumes nothing.
use Rattle.std.specs.Prelude.{Option, Some, None, ℕ, ◌≤◌, ◌<◌, ◌≡◌, refl, Bool, true, false, List, [], ltb, length, get_or, set, replicate}
use Rattle.std.proofs.Common.{sym, ◌∙◌, subst, arith, get_or-set_same, get_or-set_other, lt-ltb, le-ltb, ltb-true, ltb-false}
use Rattle.std.proofs.Math.Path.{ap}
use Rattle.std.proofs.Math.Bool.{cond}
use Rattle.std.proofs.Math.Seq.{set_out}
use Rattle.eno.specs.declared.SessionRecord.{SessionRecord}
use Rattle.door.specs.Numbers.{each_n}
use Rattle.door.specs.Outcome.{keep}
use Rattle.door.specs.declared.Change.{Change}
use Rattle.door.specs.declared.Door.{Door}
use Rattle.unit.specs.Numbers.{doors_n, rows_n}
use Rattle.unit.specs.Marks.{with_mark, mark_for}
use Rattle.unit.specs.Unit.{position_at, marks_after, rows_after, position_after, enact}
use Rattle.unit.specs.declared.Position.{Position}
use Rattle.unit_bytes.specs.Layout.{door_size}
use Rattle.unit_bytes.specs.Content.{record_in, row_of, position_in, bytes_of, unit_in}
use Rattle.unit_bytes.specs.Tells.{FlagsOver}
use Rattle.unit_bytes.specs.Laws.{SizedRecord}
use Rattle.unit_bytes.proofs.Laws.{record_read}
use Rattle.unit_bytes.proofs.Tells.{place_stays, flags_same, flags_written}
use Rattle.unit_bytes.proofs.Whole.{zero_position, door_in_lem, door_put}
use Rattle.row_list.specs.Listed.{listing_of, marked_row, marked_used, listed_row, listed_used, session_after}
use Rattle.row_list.specs.declared.RowMark.{RowMark}
use Rattle.row_list.specs.declared.Listing.{Listing}
use Rattle.pool.specs.Carried.{fits, enact_fit}
use Rattle.pool.specs.Placed.{position_from, Put, DoorsKept, PutRow, position_of, Enacts}
use Rattle.pool.specs.PlacedLaws.{with_door}

module _ (doors : List (List ℕ)) (d : ℕ) where
  pub from_past : (x : Position) → doors_n ≤ d → x ≡ position_in (replicate door_size 0) → x ≡ position_from doors d
  unfolding position_from
  from_past x h e = rw (le-ltb d doors_n h) (e ∙ zero_position)

  pub from_in : (x : Position) → d < doors_n → x ≡ position_in (get_or doors d []) → x ≡ position_from doors d
  unfolding position_from
  from_in x h e = rw (lt-ltb d doors_n h) e

  pub put_past : (x : Position) → doors_n ≤ d → Put doors doors d x
  put_past x h = record { placed = rw (le-ltb d doors_n h) refl; says = λ k. absurd (omega arith); size = λ k. absurd (omega arith) }

  pub put_in : (b : List ℕ) (x : Position) → d < doors_n → b ≡ bytes_of (get_or doors d []) x → position_in b ≡ x → length (get_or doors d []) ≡ door_size → Put doors (set doors d b) d x
  put_in b x h q e n = record { placed = rw (lt-ltb d doors_n h, q) refl; says = λ k. ap position_in (sym q) ∙ e; size = λ k. n }

pub doors_same : (d : ℕ) (doors : List (List ℕ)) → DoorsKept d doors doors
doors_same d doors = record { others = λ i n. refl; own = λ e. refl; flags = flags_same (get_or doors d []) }

-- a door put in its place touches no other, and stays in every byte where it says what it said
pub put_kept : (doors after : List (List ℕ)) (d : ℕ) (x : Position) → Put doors after d x → DoorsKept d doors after
put_kept doors after d x p = subst (λ (l : List (List ℕ)). DoorsKept d doors l) (sym p.placed) (go (ltb d doors_n) refl)
  where
    there : List ℕ
    there = bytes_of (get_or doors d []) x

    within : d < doors_n → (b : Bool) → ltb d (length doors) ≡ b → position_in (get_or (set doors d there) d []) ≡ position_in (get_or doors d []) → get_or (set doors d there) d [] ≡ get_or doors d []
    within k true e f =
        let here : get_or (set doors d there) d [] ≡ there = get_or-set_same doors d there [] (ltb-true _ _ e) in
        let same : x ≡ position_in (get_or doors d []) = sym (p.says k) ∙ (ap position_in (sym here) ∙ f) in
        here ∙ (ap (bytes_of (get_or doors d [])) same ∙ place_stays (get_or doors d []) (p.size k))
    within k false e f = ap (λ (l : List (List ℕ)). get_or l d []) (set_out doors d there (ltb-false _ _ e))

    over : (b : Bool) → ltb d (length doors) ≡ b → FlagsOver (get_or doors d []) (get_or (set doors d there) d [])
    over true e = subst (FlagsOver (get_or doors d [])) (sym (get_or-set_same doors d there [] (ltb-true _ _ e))) (flags_written (get_or doors d []) x)
    over false e = subst (λ (l : List (List ℕ)). FlagsOver (get_or doors d []) (get_or l d [])) (sym (set_out doors d there (ltb-false _ _ e))) (flags_same (get_or doors d []))

    go : (b : Bool) → ltb d doors_n ≡ b → DoorsKept d doors (cond b (set doors d there) doors)
    go true e = record { others = λ i n. get_or-set_other doors d i there [] n; own = λ f. within (ltb-true _ _ e) (ltb d (length doors)) refl f; flags = over (ltb d (length doors)) refl }
    go false e = doors_same d doors

-- an effect carried out touches no other door
pub enacts_kept : (marks marks' : List ℕ) (rows rows' doors doors' : List (List ℕ)) (d : ℕ) (x : Position) (free : ℕ) (l : Door) (c : Change) (r : SessionRecord)
    → Enacts marks marks' rows rows' doors doors' d x free l c r → DoorsKept d doors doors'
enacts_kept marks marks' rows rows' doors doors' d x free l c r h = at (ltb d doors_n) refl (listing_of x free c) refl
  where
    unmoved : doors' ≡ doors → DoorsKept d doors doors'
    unmoved e = subst (λ (m : List (List ℕ)). DoorsKept d doors m) (sym e) (doors_same d doors)

    at : (b : Bool) → ltb d doors_n ≡ b → (m : Option Listing) → listing_of x free c ≡ m → DoorsKept d doors doors'
    at true e (Some m) f = put_kept doors doors' d _ (h.fit (ltb-true _ _ e) m f)
    at true e None f = unmoved (h.unfit (ltb-true _ _ e) f)
    at false e m f = unmoved (h.past (ltb-false _ _ e)).doors_same

module _ (marks : List ℕ) (rows doors : List (List ℕ)) (d : ℕ) (ours : d < doors_n) where
  pub position_from_lem : position_from doors d ≡ position_at (unit_in marks rows doors) d
  unfolding position_from
  position_from_lem = rw (lt-ltb d doors_n ours) (sym (door_in_lem marks rows doors d ours))

  -- other data of the door
  pub put_keeps : (after : List (List ℕ)) (x : Position) (l : Door) → x ≡ position_from doors d → Put doors after d (with_door x l) → unit_in marks rows after ≡ enact_fit (unit_in marks rows doors) d l keep
  unfolding enact_fit fits enact marks_after rows_after position_after
  put_keeps after x l e p =
      ap (unit_in marks rows) (p.placed ∙ ap (λ (b : Bool). cond b (set doors d (bytes_of (get_or doors d []) (with_door x l))) doors) (lt-ltb d doors_n ours))
      ∙ (door_put marks rows doors d (bytes_of (get_or doors d []) (with_door x l)) (with_door (position_at (unit_in marks rows doors) d) l) ours (p.says ours ∙ ap (λ (y : Position). with_door y l) (e ∙ position_from_lem))
      ∙ (rw (lt-ltb d doors_n ours)))

pub row_past : (marks : List ℕ) (rows : List (List ℕ)) (i : ℕ) (used : Bool) (b : List ℕ) (s : SessionRecord) → rows_n ≤ i → b ≡ row_of s → record_in b ≡ s → PutRow marks marks rows rows i used s
row_past marks rows i used b s h q e = record { marked = rw (le-ltb i rows_n h) refl; placed = rw (le-ltb i rows_n h) refl; says = ap record_in (sym q) ∙ e }

pub row_in_place : (marks after : List ℕ) (rows : List (List ℕ)) (i : ℕ) (used : Bool) (b : List ℕ) (s : SessionRecord) → i < rows_n → after ≡ with_mark marks i (mark_for used) → b ≡ row_of s → record_in b ≡ s
    → PutRow marks after rows (set rows i b) i used s
row_in_place marks after rows i used b s h m q e = record { marked = m ∙ rw (lt-ltb i rows_n h) refl; placed = rw (lt-ltb i rows_n h, q) refl; says = ap record_in (sym q) ∙ e }

some_same : {X : Type 0} {x y : X} → Some x ≡ Some y → x ≡ y
some_same e = grind (arith, e)

some_none : {X : Type 0} {x : X} → Some x ≡ None → ⊥
some_none e = grind (arith, e)

-- the row that a list names, put; and none
pub row_marked : (marks marks' : List ℕ) (rows rows' : List (List ℕ)) (m : Option RowMark) (k : RowMark) (s : SessionRecord) → m ≡ Some k → PutRow marks marks' rows rows' k.row k.used s
    → PutRow marks marks' rows rows' (marked_row m) (marked_used m) s
row_marked marks marks' rows rows' m k s e p = subst (λ (o : Option RowMark). PutRow marks marks' rows rows' (marked_row o) (marked_used o) s) (sym e) p

pub row_unmarked : (marks : List ℕ) (rows : List (List ℕ)) (m : Option RowMark) (s : SessionRecord) → m ≡ None → SizedRecord s → PutRow marks marks rows rows (marked_row m) (marked_used m) s
row_unmarked marks rows m s e z = subst (λ (o : Option RowMark). PutRow marks marks rows rows (marked_row o) (marked_used o) s) (sym e) (row_past marks rows rows_n false (row_of s) s (omega arith) refl (record_read s z))

-- an effect as the code carries it out: the list after the change, the row's record, then both stored
pub enacts_past : (marks : List ℕ) (rows doors : List (List ℕ)) (d : ℕ) (x : Position) (free : ℕ) (l : Door) (c : Change) (r : SessionRecord) → doors_n ≤ d → Enacts marks marks rows rows doors doors d x free l c r
enacts_past marks rows doors d x free l c r h =
    record {
      past = λ k. record { marks_same = refl; rows_same = refl; doors_same = refl };
      row = λ k. absurd (omega arith);
      fit = λ k f. absurd (omega arith);
      unfit = λ k f. absurd (omega arith);
      size = λ k. absurd (omega arith);
    }

module _ (marks marks' : List ℕ) (rows rows' doors doors' : List (List ℕ)) (d : ℕ) (x : Position) (free : ℕ) (l : Door) (c : Change) (r s : SessionRecord) (n : Option Listing) (ours : d < doors_n)
    (list : n ≡ listing_of x free c) (kept : s ≡ session_after c r) (sized : length x.rows ≡ each_n) (stored : PutRow marks marks' rows rows' (listed_row n) (listed_used n) s) where
  row_there : PutRow marks marks' rows rows' (listed_row (listing_of x free c)) (listed_used (listing_of x free c)) (session_after c r)
  row_there =
      subst (λ (m : Option Listing). PutRow marks marks' rows rows' (listed_row m) (listed_used m) (session_after c r)) list
      (subst (λ (t : SessionRecord). PutRow marks marks' rows rows' (listed_row n) (listed_used n) t) kept stored)

  pub enacts_fit : (m : Listing) → n ≡ Some m → Put doors doors' d (position_of l m.count m.numbers) → Enacts marks marks' rows rows' doors doors' d x free l c r
  enacts_fit m e put =
      record {
        past = λ k. absurd (omega arith);
        row = λ k. row_there;
        fit = λ k o f. subst (λ (o : Listing). Put doors doors' d (position_of l o.count o.numbers)) (some_same (sym e ∙ (list ∙ f))) put;
        unfit = λ k f. absurd (some_none (sym e ∙ (list ∙ f)));
        size = λ k. sized;
      }

  pub enacts_unfit : n ≡ None → doors' ≡ doors → Enacts marks marks' rows rows' doors doors' d x free l c r
  enacts_unfit e same =
      record {
        past = λ k. absurd (omega arith);
        row = λ k. row_there;
        fit = λ k m f. absurd (some_none (sym f ∙ (sym list ∙ e)));
        unfit = λ k f. same;
        size = λ k. sized;
      }
