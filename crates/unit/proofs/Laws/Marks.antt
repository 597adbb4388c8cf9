-- Laws of marks: how many there are, that each is 0 or 1, that a row's mark alone changes, and which row is the lowest that has none. Assumes nothing.
use Rattle.std.specs.Prelude.{◌≡◌, refl, Bool, true, false, List, [], ◌∷◌, ◌++◌, map, ℕ, zero, suc, ◌+◌, ◌-◌, ◌*◌, ◌/◌, ◌%◌, ◌≤◌, ◌<◌, length, get_or, set, ltb}
use Rattle.std.proofs.Common.{sym, ap, ap₂, ◌∙◌, zero-add, suc-add, arith, length-append, length-set, ltb-true, ltb-false}
use Rattle.std.proofs.Math.Seq.{set_out}
use Rattle.unit.specs.Numbers.{rows_n, word_n, words_n}
use Rattle.unit.specs.Marks.{bits_of, marks_in, with_bit, with_mark}
use Rattle.unit.specs.Unit.{or_next, first_free}
use Rattle.unit.specs.Laws.Pool.{bit}

pub length_bits : (n w : ℕ) → length (bits_of n w) ≡ n
unfolding bits_of
length_bits zero w = refl
length_bits (suc n) w = ap suc (length_bits n (w / 2))

-- as many as the words have bits
pub length_marks : (words : List ℕ) → length (marks_in words) ≡ word_n * length words
unfolding marks_in
length_marks [] = omega arith
length_marks (w ∷ words) = length-append (bits_of word_n w) (marks_in words) ∙ omega (arith, length_bits word_n w, length_marks words)

pub length_with_mark : (words : List ℕ) (i b : ℕ) → length (with_mark words i b) ≡ length words
unfolding with_mark
length_with_mark words i b = rw length-set

low_of : (b n : ℕ) → b ≤ 1 → (n * 2 + b) % 2 ≡ b
low_of b n h = omega arith

half_of : (b n : ℕ) → b ≤ 1 → (n * 2 + b) / 2 ≡ n
half_of b n h = omega arith

pub low_le : (w : ℕ) → w % 2 ≤ 1
low_le w = omega arith

-- one bit of a word
pub bits_set : (n w k b : ℕ) → k < n → b ≤ 1 → bits_of n (with_bit w k b) ≡ set (bits_of n w) k b
unfolding bits_of with_bit
bits_set zero w k b h l = absurd (omega arith)
bits_set (suc n) w zero b h l = ap₂ (λ (x : ℕ) (r : List ℕ). x ∷ r) (low_of b (w / 2) l) (ap (bits_of n) (half_of b (w / 2) l))
bits_set (suc n) w (suc k) b h l =
    ap₂ (λ (x : ℕ) (r : List ℕ). x ∷ r) (low_of (w % 2) (with_bit (w / 2) k b) (low_le w))
    (ap (bits_of n) (half_of (w % 2) (with_bit (w / 2) k b) (low_le w)) ∙ bits_set n (w / 2) k b (omega arith) l)

set_front : (xs ys : List ℕ) (i b : ℕ) → i < length xs → set (xs ++ ys) i b ≡ set xs i b ++ ys
set_front [] ys i b h = absurd (omega arith)
set_front (x ∷ xs) ys zero b h = refl
set_front (x ∷ xs) ys (suc i) b h = ap (λ (l : List ℕ). x ∷ l) (set_front xs ys i b (omega arith))

set_back : (xs ys : List ℕ) (i b : ℕ) → set (xs ++ ys) (length xs + i) b ≡ xs ++ set ys i b
set_back [] ys i b = ap (λ (n : ℕ). set ys n b) (zero-add i)
set_back (x ∷ xs) ys i b = ap (λ (n : ℕ). set (x ∷ xs ++ ys) n b) (suc-add (length xs) i) ∙ ap (λ (l : List ℕ). x ∷ l) (set_back xs ys i b)

-- a row of the first word, or of a later one
data Place (i : ℕ) : Type 0 where
  here : i < 32 → Place i
  later : (j : ℕ) → i ≡ 32 + j → Place i

place : (i : ℕ) → Place i
place i = go (ltb i 32) refl
  where
    go : (b : Bool) → ltb i 32 ≡ b → Place i
    go true e = here (ltb-true i 32 e)
    go false e = let h = ltb-false i 32 e in later (i - 32) (omega arith)

-- one mark, of any row and any words: no other mark changes
pub marks_set : (words : List ℕ) (i b : ℕ) → b ≤ 1 → marks_in (with_mark words i b) ≡ set (marks_in words) i b
unfolding marks_in with_mark word_n
marks_set [] i b l = refl
marks_set (w ∷ words) i b l = go (place i) (λ j. marks_set words j b l)
  where
    go : Place i → ((j : ℕ) → marks_in (set words (j / 32) (with_bit (get_or words (j / 32) 0) (j % 32) b)) ≡ set (marks_in words) j b) → marks_in (set (w ∷ words) (i / 32) (with_bit (get_or (w ∷ words) (i / 32) 0) (i % 32) b)) ≡ set (bits_of 32 w ++ marks_in words) i b
    go (here s) f =
        let q : i / 32 ≡ 0 = omega arith in
        let r : i % 32 ≡ i = omega arith in
        rw (q, r) (ap (λ (x : List ℕ). x ++ marks_in words) (bits_set 32 w i b s l) ∙ sym (set_front (bits_of 32 w) (marks_in words) i b (omega (arith, length_bits 32 w))))
    go (later j e) f =
        let q : i / 32 ≡ suc (j / 32) = omega arith in
        let r : i % 32 ≡ j % 32 = omega arith in
        let n : length (bits_of 32 w) ≡ 32 = length_bits 32 w in
        let p : i ≡ length (bits_of 32 w) + j = omega arith in
        rw (q, r) (ap (λ (x : List ℕ). bits_of 32 w ++ x) (f j)) ∙ (sym (set_back (bits_of 32 w) (marks_in words) j b) ∙ ap (λ (x : ℕ). set (bits_of 32 w ++ marks_in words) x b) (sym p))

-- a row's word is one of the unit's; past the last row nothing is marked
pub word_in : (i : ℕ) → i < rows_n → i / word_n < words_n
unfolding rows_n word_n words_n
word_in i h = omega arith

pub mark_past : (words : List ℕ) (i b : ℕ) → length words ≤ words_n → rows_n ≤ i → with_mark words i b ≡ words
unfolding with_mark rows_n word_n words_n
mark_past words i b n h = set_out words (i / word_n) _ (omega arith)

-- each mark is 0 or 1
abbrev Bits : List ℕ → Type 0
Bits ms = (i : ℕ) → get_or ms i 0 ≤ 1

bits_append : (xs ys : List ℕ) → Bits xs → Bits ys → Bits (xs ++ ys)
bits_append [] ys f g i = g i
bits_append (x ∷ xs) ys f g zero = f zero
bits_append (x ∷ xs) ys f g (suc i) = bits_append xs ys (λ j. f (suc j)) g i

bits_word : (n w : ℕ) → Bits (bits_of n w)
unfolding bits_of
bits_word zero w i = omega arith
bits_word (suc n) w zero = low_le w
bits_word (suc n) w (suc i) = bits_word n (w / 2) i

pub marks_bits : (words : List ℕ) (i : ℕ) → get_or (marks_in words) i 0 ≤ 1
unfolding marks_in
marks_bits [] i = omega arith
marks_bits (w ∷ words) i = bits_append (bits_of word_n w) (marks_in words) (bits_word word_n w) (marks_bits words) i

-- every row below the lowest free one is in use
next_below : (m : ℕ) (ms : List ℕ) (n p : ℕ) → m ≡ p → ((k : ℕ) → k < n → 0 < get_or ms k 0) → (k : ℕ) → k < or_next p n → 0 < get_or (m ∷ ms) k 0
unfolding or_next
next_below m ms n zero e f k h = absurd (omega arith)
next_below m ms n (suc p) e f zero h = omega arith
next_below m ms n (suc p) e f (suc k) h = f k (omega arith)

pub below_marked : (ms : List ℕ) (k : ℕ) → k < first_free ms → 0 < get_or ms k 0
unfolding first_free
below_marked [] k h = absurd (omega arith)
below_marked (m ∷ ms) k h = next_below m ms (first_free ms) m refl (λ j l. below_marked ms j l) k h

-- marks of owners: 0 where the row is nobody's
map_bit : (owners : List ℕ) (i x : ℕ) → map bit (set owners i x) ≡ set (map bit owners) i (bit x)
map_bit [] i x = refl
map_bit (o ∷ owners) zero x = refl
map_bit (o ∷ owners) (suc i) x = ap (λ (l : List ℕ). bit o ∷ l) (map_bit owners i x)

module _ (owners : List ℕ) (i : ℕ) where
  pub mark_taken : (d : ℕ) → map bit (set owners i (suc d)) ≡ set (map bit owners) i 1
  unfolding bit
  mark_taken d = map_bit owners i (suc d)

  pub mark_freed : map bit (set owners i 0) ≡ set (map bit owners) i 0
  unfolding bit
  mark_freed = map_bit owners i 0

next_bit : (o n : ℕ) → or_next (bit o) n ≡ or_next o n
unfolding or_next bit
next_bit zero n = refl
next_bit (suc o) n = refl

pub first_free_bits : (owners : List ℕ) → first_free (map bit owners) ≡ first_free owners
unfolding first_free
first_free_bits [] = refl
first_free_bits (o ∷ owners) = ap (or_next (bit o)) (first_free_bits owners) ∙ next_bit o (first_free owners)

-- the mark of an owner
pub mark_of_owner : (owners : List ℕ) (i : ℕ) → get_or (map bit owners) i 0 ≡ bit (get_or owners i 0)
unfolding bit
mark_of_owner [] i = refl
mark_of_owner (o ∷ owners) zero = refl
mark_of_owner (o ∷ owners) (suc i) = mark_of_owner owners i
