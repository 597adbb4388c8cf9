-- A line is the same however its bytes are cut into chunks. Assumes nothing.
use Rattle.std.specs.Prelude.{ℕ, ◌+◌, ◌≡◌, refl, List, [], ◌∷◌, ◌++◌, Bool, true, false, cond, eqb, length}
use Rattle.std.proofs.Common.{sym}
use Rattle.std.proofs.lemmas.Bool.{false≢true}
use Rattle.text_lines.specs.Line.{Line, newline, grown, longer, line_of}

-- where the newline is not among the first bytes, the others go on from there
abbrev goes_on : ℕ → Line → List ℕ → Line
goes_on m l s = line_of m l.kept l.long l.next s

pub in_chunks : (m : ℕ) (a b k : List ℕ) (long : Bool) (i : ℕ) → (line_of m k long i a).whole ≡ false → line_of m k long i (a ++ b) ≡ goes_on m (line_of m k long i a) b
unfolding line_of
in_chunks m [] b k long i e = refl
in_chunks m (x ∷ a) b k long i e = go (eqb x newline) (in_chunks m a b (grown m k x) (longer m (length k) long) (i + 1)) e
  where
    met : Line
    met = record { kept = k; long = long; whole = true; next = i + 1 }

    first : Line
    first = line_of m (grown m k x) (longer m (length k) long) (i + 1) a

    both : Line
    both = line_of m (grown m k x) (longer m (length k) long) (i + 1) (a ++ b)

    go : (t : Bool) → (first.whole ≡ false → both ≡ goes_on m first b) → (cond t met first).whole ≡ false → cond t met both ≡ goes_on m (cond t met first) b
    go true same q = absurd (false≢true (sym q))
    go false same q = same q
