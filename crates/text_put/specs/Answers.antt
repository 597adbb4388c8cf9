-- Text that is put at a place: the place after it, and what `put` promises.
use Rattle.std.specs.Prelude.{ℕ, ◌+◌, ◌≡◌, List, cond, leb, length}
use Rattle.wire.specs.Bytes.{pasted}

-- the place after v, where v is put at place i of s; i itself where it does not fit
unfoldable pub place_after : List ℕ → ℕ → List ℕ → ℕ
place_after s i v = cond (leb (i + length v) (length s)) (i + length v) i

-- the bytes v were put at place i of s₀, which is now s, and r is the place after them
pub record Put (s₀ : List ℕ) (i : ℕ) (v : List ℕ) (s : List ℕ) (r : ℕ) : Type 0 where
  pub written : s ≡ pasted s₀ i v
  pub next : r ≡ place_after s₀ i v
