-- The marks of rows: words of bits, the lowest row in the lowest bit of the first word; 1 is in use.
use Rattle.std.specs.Prelude.{ℕ, zero, suc, ◌+◌, ◌*◌, ◌/◌, ◌%◌, Bool, true, false, List, [], ◌∷◌, ◌++◌, get_or, set}
use Rattle.unit.specs.Numbers.{word_n}

-- so many bits of a word, the lowest first
unfoldable pub bits_of : ℕ → ℕ → List ℕ
bits_of zero w = []
bits_of (suc n) w = w % 2 ∷ bits_of n (w / 2)

-- the marks of all rows, in order
unfoldable pub marks_in : List ℕ → List ℕ
marks_in [] = []
marks_in (w ∷ words) = bits_of word_n w ++ marks_in words

-- a word with its k-th bit b
unfoldable pub with_bit : ℕ → ℕ → ℕ → ℕ
with_bit w zero b = w / 2 * 2 + b
with_bit w (suc k) b = with_bit (w / 2) k b * 2 + w % 2

-- the words with the mark of row i at b; past the last row nothing is changed
unfoldable pub with_mark : List ℕ → ℕ → ℕ → List ℕ
with_mark words i b = set words (i / word_n) (with_bit (get_or words (i / word_n) 0) (i % word_n) b)

-- the mark of a row that is in use or not
unfoldable pub mark_for : Bool → ℕ
mark_for false = 0
mark_for true = 1
