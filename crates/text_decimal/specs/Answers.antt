-- The answer of the reader, in the terms of the definition: it is the definition's own.
use Rattle.std.specs.Prelude.{ℕ, ◌≡◌, Option}

abbrev pub number_of : Option ℕ → Option ℕ
number_of r = r

-- the view loses nothing
pub number_tells : (a b : Option ℕ) → number_of a ≡ number_of b → a ≡ b
number_tells a b e = e
