-- A line, read byte by byte to its newline: its first m bytes are kept, and what follows them makes it too long.
use Rattle.std.specs.Prelude.{ℕ, ◌+◌, ◌-◌, List, [], ◌∷◌, ◌++◌, Bool, true, false, cond, ltb, eqb, length, get_or, take}

abbrev pub newline : ℕ
newline = 10

abbrev pub carriage_return : ℕ
carriage_return = 13

-- the bytes that are kept, whether there were more, whether the newline was met, and the place after what was read
pub record Line : Type 0 where
  pub kept : List ℕ
  pub long : Bool
  pub whole : Bool
  pub next : ℕ

-- one byte more
unfoldable pub grown : ℕ → List ℕ → ℕ → List ℕ
grown m k x = cond (ltb (length k) m) (k ++ (x ∷ [])) k

-- whether a line that keeps n of m bytes is too long with one more
unfoldable pub longer : ℕ → ℕ → Bool → Bool
longer m n long = cond (ltb n m) long true

-- a line after the bytes from place i on, of which k are kept so far
unfoldable pub line_of : ℕ → List ℕ → Bool → ℕ → List ℕ → Line
line_of m k long i [] = record { kept = k; long = long; whole = false; next = i }
line_of m k long i (x ∷ s) = cond (eqb x newline) (record { kept = k; long = long; whole = true; next = i + 1 }) (line_of m (grown m k x) (longer m (length k) long) (i + 1) s)

-- a line without the one carriage return that may stand before its newline; the last byte of no bytes reads as 0
unfoldable pub without_return : List ℕ → List ℕ
without_return s = cond (eqb (get_or s (length s - 1) 0) carriage_return) (take (length s - 1) s) s
