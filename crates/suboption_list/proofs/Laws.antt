-- What a list in an array says: the list of an option has all its suboptions, and what is put behind the last is listed last. Assumes nothing.
use Prim.Native.Nat.{ℕ, zero, suc, ◌+◌, ◌-◌, ◌≤◌, ◌<◌}
use Rattle.std.specs.Prelude.{◌≡◌, List, [], ◌∷◌, ◌++◌, map, get_or, set, replicate}
use Rattle.std.proofs.Math.Path.{refl}
use Rattle.std.proofs.Common.{◌∙◌, ap, ap₂, lt-ltb, le-ltb, length-append}
use native.Mathlib.Omega.{arith}
use Rattle.std.proofs.Math.ListN.{length}
use Rattle.eno.specs.Walk.{Piece, end, fault, item, Reading, readable, faulty, before, listed, items, items_of}
use Rattle.eno.specs.Suboption.{Suboption, global, tep, suboption_at, suboptions, is_ill_formed}
use Rattle.eno.proofs.Laws.Suboption.{suboption_onward}
use Rattle.suboption_list.specs.List.{most_items, item_of, filler, suboption_of, items_from, count_of, items_in, array_of, list_with, broken_list, listed_of, list_of}
use Rattle.suboption_list.specs.declared.SuboptionItem.{SuboptionItem}

pub count_within : (n : ℕ) → n ≤ most_items → count_of n ≡ n
unfolding count_of
count_within n h = simp (le-ltb _ _ h)

pub count_above : (n : ℕ) → most_items < n → count_of n ≡ most_items
unfolding count_of
count_above n h = simp (lt-ltb _ _ h)

item_back : (x : Suboption) → suboption_of (item_of x) ≡ x
item_back (global b) = refl
item_back (tep x) = refl

items_behind : (y : SuboptionItem) (l : List SuboptionItem) (n i : ℕ) → items_from (y ∷ l) n (suc i) ≡ items_from l n i
unfolding items_from
items_behind y l zero i = refl
items_behind y l (suc n) i = ap (λ r. suboption_of (get_or l i filler) ∷ r) (items_behind y l n (suc i))

items_back : (l : List Suboption) (rest : List SuboptionItem) → items_from (map item_of l ++ rest) (length l) 0 ≡ l
unfolding items_from
items_back [] rest = refl
items_back (x ∷ l) rest = ap₂ (λ y r. y ∷ r) (item_back x) (items_behind (item_of x) (map item_of l ++ rest) (length l) 0 ∙ items_back l rest)

-- what is put into an array is read back
pub list_back : (l : List Suboption) → length l ≤ most_items → items_in (list_with l) ≡ l
unfolding items_in list_with array_of
list_back l h = ap (λ n. items_from (map item_of l ++ replicate (most_items - length l) filler) n 0) (count_within (length l) h) ∙ items_back l _

-- nothing behind a list, and one more
pub append_nil : (l : List Suboption) → l ++ [] ≡ l
append_nil [] = refl
append_nil (x ∷ l) = ap (λ r. x ∷ r) (append_nil l)

pub append_one : (l : List Suboption) (x : Suboption) (m : List Suboption) → (l ++ x ∷ []) ++ m ≡ l ++ x ∷ m
append_one [] x m = refl
append_one (y ∷ l) x m = ap (λ r. y ∷ r) (append_one l x m)

-- one more suboption, put behind the last
put_behind : (l : List Suboption) (x : Suboption) (n : ℕ) → set (map item_of l ++ replicate (suc n) filler) (length l) (item_of x) ≡ map item_of (l ++ x ∷ []) ++ replicate n filler
put_behind [] x n = refl
put_behind (y ∷ l) x n = ap (λ r. item_of y ∷ r) (put_behind l x n)

pub array_more : (l : List Suboption) (x : Suboption) → length l < most_items → set (array_of l) (length l) (item_of x) ≡ array_of (l ++ x ∷ [])
unfolding array_of
array_more l x h =
    let n = length-append l (x ∷ []) in
    let left : most_items - length l ≡ suc (most_items - length (l ++ x ∷ [])) = omega arith in
    ap (λ k. set (map item_of l ++ replicate k filler) (length l) (item_of x)) left ∙ put_behind l x (most_items - length (l ++ x ∷ []))

module _ (o : List ℕ) where
  -- each suboption has a byte of its own
  counted : (fuel i : ℕ) → length (listed (items (suboption_at o) fuel i)) ≤ length o - i
  unfolding items
  counted zero i = omega arith
  counted (suc fuel) i = go (λ j. counted fuel j) (suboption_at o i) refl
    where
      one : (x : Suboption) (j : ℕ) (r : Reading (Unit {0}) Suboption) → (i < j) × (j ≤ length o) → length (listed r) ≤ length o - j → length (listed (before x r)) ≤ length o - i
      one x j (readable l) w h = omega arith
      one x j (faulty f) w h = omega arith

      go : ((j : ℕ) → length (listed (items (suboption_at o) fuel j)) ≤ length o - j) → (x : Piece (Unit {0}) Suboption) → suboption_at o i ≡ x
          → length (listed (items (suboption_at o) (suc fuel) i)) ≤ length o - i
      go rest end e = rw (e, items) (omega arith)
      go rest (fault f) e = rw (e, items) (omega arith)
      go rest (item x j) e = rw (e, items) (one x j (items (suboption_at o) fuel j) (suboption_onward o i x j e) (rest j))

  few : length o ≤ 40 → length (listed (suboptions o)) ≤ most_items
  unfolding suboptions items_of
  few h = let n = counted (suc (length o - 2)) 2 in omega arith

reading_says : (r : Reading (Unit {0}) Suboption) → length (listed r) ≤ most_items → ((listed_of r).ill_formed ≡ is_ill_formed r) × (items_in (listed_of r) ≡ listed r)
unfolding listed_of list_with is_ill_formed items_in count_of items_from
reading_says (faulty f) h = (refl, refl)
reading_says (readable l) h = (refl, list_back l h)

-- the list of an option
pub list_within : (o : List ℕ) → length o ≤ 40 → list_of o ≡ listed_of (suboptions o)
unfolding list_of
list_within o h = simp (le-ltb _ _ h)

pub list_beyond : (o : List ℕ) → 40 < length o → list_of o ≡ broken_list
unfolding list_of
list_beyond o h = simp (lt-ltb _ _ h)

-- is ill-formed where the option is, and has its suboptions
pub list_says : (o : List ℕ) → length o ≤ 40 → ((list_of o).ill_formed ≡ is_ill_formed (suboptions o)) × (items_in (list_of o) ≡ listed (suboptions o))
list_says o h = rw (list_within o h) (reading_says (suboptions o) (few o h))
