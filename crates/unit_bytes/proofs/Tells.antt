-- Nothing is lost: what is read, written again, is the same bytes, and two contents that say the same unit are the same bytes where flags are 0 or 1. Assumes nothing.
use Rattle.std.specs.Prelude.{ℕ, zero, suc, ◌+◌, ◌≤◌, ◌<◌, ◌≡◌, ◌⊎◌, length, replicate}
use Rattle.std.proofs.Math.Path.{refl}
use Rattle.std.proofs.Common.{sym, ◌∙◌, ap, subst, inl, inr, arith, lit≤, take_all, ext_get_or}
use mathlib.Core.List.{List, [], ◌∷◌, ◌++◌}
use Rattle.std.proofs.Math.ListN.{get_or}
use Rattle.std.proofs.lemmas.List.{get_or-replicate}
use Rattle.wire.specs.Bytes.{bytes_from, part}
use Rattle.wire.specs.ByteLaws.{bytes_from_part}
use Rattle.door.specs.Door.{no_session}
use Rattle.unit.specs.Numbers.{doors_n, rows_n, words_n}
use Rattle.unit.specs.Unit.{idle_position}
use Rattle.unit.specs.declared.Position.{Position}
use Rattle.unit.specs.declared.LinkUnit.{LinkUnit}
use Rattle.unit_bytes.specs.Layout.{row_size, row_identifier_at, row_secret_at, door_size, numbers_size, own_at, peer_at, identifier_at, secret_at, mandatory_at, resumed_at, held_at}
use Rattle.unit_bytes.specs.Content.{is_set, flag_of, flag_over, record_in, row_of, position_in, numbers_of, bytes_of, unit_in}
use Rattle.unit_bytes.proofs.Laws.{over_writes}
use Rattle.unit_bytes.proofs.Whole.{door_in_lem, row_in}
use Rattle.unit_bytes.specs.Tells.{Tidy, FlagsOver, Sized, AllTidy, Same}

-- parts one after the other
from_add : (n m : ℕ) (s : List ℕ) (i k : ℕ) → k ≡ i + n → bytes_from n s i ++ bytes_from m s k ≡ bytes_from (n + m) s i
unfolding bytes_from
from_add zero m s i k e = let z : k ≡ i = omega arith in let w : 0 + m ≡ m = omega arith in ap (bytes_from m s) z ∙ ap (λ (j : ℕ). bytes_from j s i) (sym w)
from_add (suc n) m s i k e =
    let w : suc n + m ≡ suc (n + m) = omega arith in
    ap (λ (l : List ℕ). get_or s i 0 ∷ l) (from_add n m s (i + 1) k (omega arith)) ∙ ap (λ (j : ℕ). bytes_from j s i) (sym w)

from_all : (n : ℕ) (b : List ℕ) → length b ≡ n → bytes_from n b 0 ≡ b
unfolding part
from_all n b e = bytes_from_part n b 0 (omega arith) ∙ take_all n b (omega arith)

two_from : (b : List ℕ) → get_or b 0 0 ∷ get_or b 1 0 ∷ [] ≡ bytes_from 2 b 0
unfolding bytes_from
two_from b = refl

-- a row that is read and written again
pub row_written : (b : List ℕ) → length b ≡ row_size → row_of (record_in b) ≡ b
unfolding row_of record_in
row_written b e =
    ap (λ (l : List ℕ). l ++ bytes_from 18 b row_identifier_at ++ bytes_from 32 b row_secret_at) (two_from b)
    ∙ (ap (λ (l : List ℕ). l ++ bytes_from 32 b row_secret_at) (from_add row_identifier_at 18 b 0 row_identifier_at refl) ∙ (from_add row_secret_at 32 b 0 row_secret_at refl ∙ from_all row_size b e))

-- flags written again
flag_again : (x : ℕ) → x ≤ 1 → flag_of (is_set x) ≡ x
unfolding flag_of is_set
flag_again zero h = refl
flag_again (suc zero) h = refl
flag_again (suc (suc x)) h = absurd (omega arith)

over_again : (x : ℕ) → flag_over x (is_set x) ≡ x
unfolding flag_over flag_of is_set
over_again zero = refl
over_again (suc x) = refl

over_none : (x : ℕ) → x ≤ 1 → flag_over 0 (is_set x) ≡ x
unfolding flag_over
over_none x h = flag_again x h

module _ (o b : List ℕ) (m : flag_over (get_or o mandatory_at 0) (is_set (get_or b mandatory_at 0)) ≡ get_or b mandatory_at 0) (r : flag_over (get_or o resumed_at 0) (is_set (get_or b resumed_at 0)) ≡ get_or b resumed_at 0) (h : flag_over (get_or o held_at 0) (is_set (get_or b held_at 0)) ≡ get_or b held_at 0) where
  head_written : numbers_of o (position_in b) ≡ bytes_from numbers_size b 0
  unfolding numbers_of position_in bytes_from
  head_written =
      λ i.
      get_or b 0 0
      ∷ m i
      ∷ get_or b 2 0
      ∷ get_or b 3 0
      ∷ get_or b 4 0
      ∷ get_or b 5 0
      ∷ get_or b 6 0
      ∷ r i
      ∷ get_or b 8 0
      ∷ get_or b 9 0
      ∷ h i
      ∷ get_or b 11 0
      ∷ get_or b 12 0
      ∷ get_or b 13 0
      ∷ get_or b 14 0
      ∷ get_or b 15 0
      ∷ get_or b 16 0
      ∷ get_or b 17 0
      ∷ []

  parts : bytes_of o (position_in b) ≡ numbers_of o (position_in b) ++ bytes_from 40 b own_at ++ bytes_from 40 b peer_at ++ bytes_from 18 b identifier_at ++ bytes_from 32 b secret_at
  unfolding bytes_of position_in
  parts = refl

  place_over : length b ≡ door_size → bytes_of o (position_in b) ≡ b
  place_over e =
      parts
      ∙ (ap (λ (l : List ℕ). l ++ bytes_from 40 b own_at ++ bytes_from 40 b peer_at ++ bytes_from 18 b identifier_at ++ bytes_from 32 b secret_at) head_written
      ∙ (ap (λ (l : List ℕ). l ++ bytes_from 40 b peer_at ++ bytes_from 18 b identifier_at ++ bytes_from 32 b secret_at) (from_add own_at 40 b 0 own_at refl)
      ∙ (ap (λ (l : List ℕ). l ++ bytes_from 18 b identifier_at ++ bytes_from 32 b secret_at) (from_add peer_at 40 b 0 peer_at refl)
      ∙ (ap (λ (l : List ℕ). l ++ bytes_from 32 b secret_at) (from_add identifier_at 18 b 0 identifier_at refl) ∙ (from_add secret_at 32 b 0 secret_at refl ∙ from_all door_size b e)))))

-- bytes that say a position, written over themselves, stay: every byte
pub place_stays : (b : List ℕ) → length b ≡ door_size → bytes_of b (position_in b) ≡ b
place_stays b e = place_over b b (over_again (get_or b mandatory_at 0)) (over_again (get_or b resumed_at 0)) (over_again (get_or b held_at 0)) e

-- bytes whose flags are 0 or 1, written anew
pub place_written : (b : List ℕ) → Tidy b → length b ≡ door_size → bytes_of [] (position_in b) ≡ b
place_written b t e = place_over [] b (over_none (get_or b mandatory_at 0) t.mandatory) (over_none (get_or b resumed_at 0) t.resumed) (over_none (get_or b held_at 0) t.held) e

-- as they are in bytes that stay
pub flags_same : (b : List ℕ) → FlagsOver b b
flags_same b = record { mandatory_from = inr (inr refl); resumed_from = inr (inr refl); held_from = inr (inr refl) }

flag_tidy : (x y : ℕ) → (y ≡ 0) ⊎ ((y ≡ 1) ⊎ (y ≡ x)) → x ≤ 1 → y ≤ 1
flag_tidy x y (inl e) h = omega arith
flag_tidy x y (inr (inl e)) h = omega arith
flag_tidy x y (inr (inr e)) h = omega arith

-- so flags that are 0 or 1 stay 0 or 1
pub flags_stay : (o b : List ℕ) → FlagsOver o b → Tidy o → Tidy b
flags_stay o b f t =
    record { mandatory = flag_tidy _ _ f.mandatory_from t.mandatory; resumed = flag_tidy _ _ f.resumed_from t.resumed; held = flag_tidy _ _ f.held_from t.held }

module _ (o : List ℕ) (x : Position) where
  pub flags_written : FlagsOver o (bytes_of o x)
  unfolding bytes_of numbers_of
  flags_written =
      record {
        mandatory_from = over_writes (get_or o mandatory_at 0) x.door.mandatory;
        resumed_from = over_writes (get_or o resumed_at 0) x.door.resumed;
        held_from = over_writes (get_or o held_at 0) x.door.hand.held;
      }

-- as they are in a door of zeros
pub zeros_tidy : Tidy (replicate door_size 0)
zeros_tidy = record { mandatory = lit≤ tt; resumed = lit≤ tt; held = lit≤ tt }

-- nothing is lost of a row, of a door and of the whole
pub row_tells : (a b : List ℕ) → length a ≡ row_size → length b ≡ row_size → record_in a ≡ record_in b → a ≡ b
row_tells a b m n e = sym (row_written a m) ∙ (ap row_of e ∙ row_written b n)

pub door_tells : (a b : List ℕ) → length a ≡ door_size → length b ≡ door_size → Tidy a → Tidy b → position_in a ≡ position_in b → a ≡ b
door_tells a b m n s t e = sym (place_written a s m) ∙ (ap (bytes_of []) e ∙ place_written b t n)

-- as they are in zeros
pub erased_tidy : AllTidy (replicate doors_n (replicate door_size 0))
erased_tidy = record { each = λ i h. subst Tidy (sym (get_or-replicate doors_n i (replicate door_size 0) [] h)) zeros_tidy }

pub marks_in_lem : (marks : List ℕ) (rows doors : List (List ℕ)) → length marks ≡ words_n → (unit_in marks rows doors).marks ≡ marks
unfolding unit_in
marks_in_lem marks rows doors e = take_all words_n marks (omega arith)

pub unit_tells : (marks marks' : List ℕ) (rows rows' doors doors' : List (List ℕ)) → Sized marks rows doors → Sized marks' rows' doors' → AllTidy doors → AllTidy doors'
    → unit_in marks rows doors ≡ unit_in marks' rows' doors' → Same marks marks' rows rows' doors doors'
unit_tells marks marks' rows rows' doors doors' s t p q e =
    record {
      marks_same = sym (marks_in_lem marks rows doors s.all_marks) ∙ (ap (λ (u : LinkUnit). u.marks) e ∙ marks_in_lem marks' rows' doors' t.all_marks);
      rows_same =
          ext_get_or [] rows rows' (s.all_rows ∙ sym t.all_rows)
          (λ i h.
          let k : i < rows_n = omega (arith, s.all_rows) in
          row_tells (get_or rows i []) (get_or rows' i []) (s.row_bytes i k) (t.row_bytes i k)
          (sym (row_in marks rows doors i k) ∙ (ap (λ (u : LinkUnit). get_or u.rows i no_session) e ∙ row_in marks' rows' doors' i k)));
      doors_same =
          ext_get_or [] doors doors' (s.all_doors ∙ sym t.all_doors)
          (λ i h.
          let k : i < doors_n = omega (arith, s.all_doors) in
          door_tells (get_or doors i []) (get_or doors' i []) (s.door_bytes i k) (t.door_bytes i k) (p.each i k) (q.each i k)
          (sym (door_in_lem marks rows doors i k) ∙ (ap (λ (u : LinkUnit). get_or u.doors i idle_position) e ∙ door_in_lem marks' rows' doors' i k)));
    }
