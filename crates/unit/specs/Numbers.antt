-- The numbers of the unit, with the two facts about them. A raise changes the lines of doors_n and rows_n, and the two array lengths of src/lib.rt.
use Rattle.std.specs.Prelude.{◌≡◌, ℕ, ◌*◌, ◌/◌, ◌≤◌}

unfoldable pub doors_n : ℕ
doors_n = 48

unfoldable pub rows_n : ℕ
rows_n = 192

-- the marks of a word, and the words that all rows need
unfoldable pub word_n : ℕ
word_n = 32

unfoldable pub words_n : ℕ
words_n = rows_n / word_n
