-- Where a byte first stands in a text, and the word at a place: it ends at a space or with the text.
use Rattle.std.specs.Prelude.{ℕ, suc, ◌+◌, List, [], ◌∷◌, cond, eqb, take, drop}

-- how many bytes stand before the first c; all where there is no c
unfoldable pub before : ℕ → List ℕ → ℕ
before c [] = 0
before c (x ∷ l) = cond (eqb x c) 0 (suc (before c l))

-- the first place from i on where c stands; the end where it stands nowhere, and i itself past the end
unfoldable pub place_of : ℕ → List ℕ → ℕ → ℕ
place_of c s i = i + before c (drop i s)

abbrev pub space : ℕ
space = 0x20

-- where the word that begins at i ends
unfoldable pub word_end : List ℕ → ℕ → ℕ
word_end s i = place_of space s i

-- the word that begins at i
unfoldable pub word_at : List ℕ → ℕ → List ℕ
word_at s i = take (before space (drop i s)) (drop i s)
