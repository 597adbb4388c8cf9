-- The whole unit in arrays: the empty unit, a door or a row read, and a door or a row put in its place. Assumes nothing, of the arrays' lengths neither.
use Rattle.std.specs.Prelude.{ℕ, zero, suc, ◌/◌, ◌%◌, ◌<◌, ◌≡◌, refl, take, replicate}
use Rattle.std.proofs.Common.{sym, ◌∙◌, get_or-take}
use Rattle.std.proofs.Math.Path.{ap, ap₂}
use mathlib.Core.List.{List, [], ◌∷◌, map}
use Rattle.std.proofs.Math.ListN.{get_or, set, get_or-map}
use Rattle.std.proofs.Math.Seq.{take-set-lt}
use Rattle.wire.specs.Bytes.{bytes_from}
use Rattle.eno.specs.declared.SessionRecord.{SessionRecord}
use Rattle.door.specs.Numbers.{each_n}
use Rattle.door.specs.Door.{no_session, empty_hand, idle_door}
use Rattle.unit.specs.Numbers.{doors_n, rows_n, word_n, words_n}
use Rattle.unit.specs.Marks.{with_bit, with_mark}
use Rattle.unit.specs.Unit.{idle_position, empty_unit}
use Rattle.unit.proofs.Laws.Marks.{word_in}
use Rattle.unit.specs.declared.Position.{Position}
use Rattle.unit_bytes.specs.Layout.{row_size, door_size}
use Rattle.unit_bytes.specs.Content.{is_set, record_in, position_in, unit_in}
use Rattle.unit_bytes.specs.Whole.{unit_of}

map_set : {X Y : Type 0} (f : X → Y) (l : List X) (i : ℕ) (x : X) → map f (set l i x) ≡ set (map f l) i (f x)
map_set f [] i x = refl
map_set f (y ∷ l) zero x = refl
map_set f (y ∷ l) (suc i) x = ap (λ (r : List _). f y ∷ r) (map_set f l i x)

map_replicate : {X Y : Type 0} (f : X → Y) (n : ℕ) (x : X) → map f (replicate n x) ≡ replicate n (f x)
map_replicate f zero x = refl
map_replicate f (suc n) x = ap (λ (r : List _). f x ∷ r) (map_replicate f n x)

take_replicate : {X : Type 0} (n : ℕ) (x : X) → take n (replicate n x) ≡ replicate n x
take_replicate zero x = refl
take_replicate (suc n) x = ap (λ (r : List _). x ∷ r) (take_replicate n x)

-- no bytes and zeros are an idle door and an empty record
pub no_position : position_in [] ≡ idle_position
unfolding position_in bytes_from is_set idle_position idle_door empty_hand no_session each_n
no_position = refl

pub zero_position : position_in (replicate door_size 0) ≡ idle_position
unfolding position_in bytes_from is_set idle_position idle_door empty_hand no_session each_n
zero_position = refl

pub no_record : record_in [] ≡ no_session
unfolding record_in bytes_from no_session
no_record = refl

pub zero_record : record_in (replicate row_size 0) ≡ no_session
unfolding record_in bytes_from no_session
zero_record = refl

-- zeros are the empty unit
pub erased : unit_in (replicate words_n 0) (replicate rows_n (replicate row_size 0)) (replicate doors_n (replicate door_size 0)) ≡ empty_unit
unfolding unit_in empty_unit
erased =
    λ i.
    unit_of (take_replicate words_n 0 i)
    ((ap (map record_in) (take_replicate rows_n (replicate row_size 0)) ∙ (map_replicate record_in rows_n (replicate row_size 0) ∙ ap (replicate rows_n) zero_record)) i)
    ((ap (map position_in) (take_replicate doors_n (replicate door_size 0)) ∙ (map_replicate position_in doors_n (replicate door_size 0) ∙ ap (replicate doors_n) zero_position)) i)

module _ (marks : List ℕ) (rows doors : List (List ℕ)) where
  -- a door read: where the array has none, an idle one
  pub door_in_lem : (d : ℕ) → d < doors_n → get_or (unit_in marks rows doors).doors d idle_position ≡ position_in (get_or doors d [])
  unfolding unit_in
  door_in_lem d h =
      ap (λ (x : Position). get_or (map position_in (take doors_n doors)) d x) (sym no_position)
      ∙ (get_or-map position_in (take doors_n doors) d [] ∙ ap position_in (get_or-take doors_n doors d [] h))

  -- a door put in its place
  pub door_put : (d : ℕ) (b : List ℕ) (x : Position) → d < doors_n → position_in b ≡ x
      → unit_in marks rows (set doors d b) ≡ unit_of (unit_in marks rows doors).marks (unit_in marks rows doors).rows (set (unit_in marks rows doors).doors d x)
  unfolding unit_in
  door_put d b x h e =
      ap (λ (l : List Position). unit_of (take words_n marks) (map record_in (take rows_n rows)) l)
      (ap (map position_in) (take-set-lt doors_n doors d b h) ∙ (map_set position_in (take doors_n doors) d b ∙ ap (set (map position_in (take doors_n doors)) d) e))

  -- a row read: where the array has none, an empty record
  pub row_in : (i : ℕ) → i < rows_n → get_or (unit_in marks rows doors).rows i no_session ≡ record_in (get_or rows i [])
  unfolding unit_in
  row_in i h =
      ap (λ (x : SessionRecord). get_or (map record_in (take rows_n rows)) i x) (sym no_record)
      ∙ (get_or-map record_in (take rows_n rows) i [] ∙ ap record_in (get_or-take rows_n rows i [] h))

  -- a row's mark
  mark_put : (i m : ℕ) → i < rows_n → take words_n (with_mark marks i m) ≡ with_mark (take words_n marks) i m
  unfolding with_mark
  mark_put i m h =
      take-set-lt words_n marks (i / word_n) _ (word_in i h)
      ∙ ap (λ (w : ℕ). set (take words_n marks) (i / word_n) (with_bit w (i % word_n) m)) (sym (get_or-take words_n marks (i / word_n) 0 (word_in i h)))

  -- a row and its mark put in their places
  pub row_put : (i m : ℕ) (b : List ℕ) (s : SessionRecord) → i < rows_n → record_in b ≡ s
      → unit_in (with_mark marks i m) (set rows i b) doors ≡ unit_of (with_mark (unit_in marks rows doors).marks i m) (set (unit_in marks rows doors).rows i s) (unit_in marks rows doors).doors
  unfolding unit_in
  row_put i m b s h e =
      ap₂ (λ (k : List ℕ) (l : List SessionRecord). unit_of k l (map position_in (take doors_n doors)))
      (mark_put i m h)
      (ap (map record_in) (take-set-lt rows_n rows i b h) ∙ (map_set record_in (take rows_n rows) i b ∙ ap (set (map record_in (take rows_n rows)) i) e))
