-- What the checker's first three tests tell of a file where none of them holds, and laws of tests over handshakes. Assumes nothing.
use Rattle.std.specs.Prelude.{ℕ, ◌≤◌, ◌<◌, ◌≡◌, List, length}
use Rattle.capture_layout.specs.Layout.{most_file, most_handshakes, contents_size, count_in, place_in, end_in}
use Rattle.capture_layout.specs.Checking.{end_before, expected}

-- a file to which 18, 19 and 20 do not apply
pub record Laid (f : List ℕ) : Type 0 where
  pub small : length f ≤ most_file
  pub few : count_in f ≤ most_handshakes
  pub contents : contents_size (count_in f) ≤ length f
  pub within : (i k : ℕ) → i < count_in f → k < 4 → end_in f i k ≤ length f
  pub placed : (i k : ℕ) → i < count_in f → k < 4 → place_in f i k ≡ expected f i k
  pub no_rest : length f ≤ end_before f (count_in f)
