-- The answers of the readers, in the terms of the definitions: they are the definitions' own; and what the reader of bytes promises.
use Rattle.std.specs.Prelude.{ℕ, ◌≡◌, List, length, Option}
use Rattle.text_hex.specs.Hex.{bytes_said, at_most, count_of, holding}

abbrev pub octet_of : Option ℕ → Option ℕ
octet_of r = r

abbrev pub length_of : Option ℕ → Option ℕ
length_of r = r

-- the bytes that a word says were put at the beginning of s₀, which is now s, and r is their count; where it says none, or more than s₀ has room for, s₀ is as it was
pub record Took (w : List ℕ) (s₀ : List ℕ) (s : List ℕ) (r : Option ℕ) : Type 0 where
  pub count : length_of r ≡ count_of (at_most (length s₀) (bytes_said w))
  pub held : s ≡ holding s₀ (at_most (length s₀) (bytes_said w))

-- the views lose nothing
pub octet_tells : (a b : Option ℕ) → octet_of a ≡ octet_of b → a ≡ b
octet_tells a b e = e

pub bytes_tells : (a b : Option ℕ) → length_of a ≡ length_of b → a ≡ b
bytes_tells a b e = e
