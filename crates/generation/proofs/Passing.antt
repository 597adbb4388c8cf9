-- Laws of a generation that would pass the last one. Assumes nothing.
use Rattle.std.specs.Prelude.{ℕ, ◌+◌, ◌≤◌, ◌<◌, ◌≡◌, true, false}
use Rattle.std.proofs.Common.{arith, lt-ltb, le-ltb}
use Rattle.generation.specs.Steps.{most_generation, would_pass}

-- a number that is one below the last or more would pass it
pub passes : (n : ℕ) → 65535 ≤ n → would_pass n ≡ true
unfolding would_pass most_generation
passes n h = lt-ltb 65535 (n + 1) (omega arith)

pub passes_not : (n : ℕ) → n < 65535 → would_pass n ≡ false
unfolding would_pass most_generation
passes_not n h = le-ltb 65535 (n + 1) (omega arith)
