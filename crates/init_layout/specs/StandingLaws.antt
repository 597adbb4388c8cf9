-- What it means that a message is whole at hand, and the converse. Assumes nothing.
use Rattle.std.specs.Prelude.{ℕ, ◌≤◌, ◌≡◌, List, true, length}
use Rattle.std.proofs.Common.{◌∙◌}
use Rattle.init_layout.specs.Layout.{most_length}
use Rattle.init_layout.specs.Reading.{agrees, length_at}

-- what is known of bytes that may still be readable
pub record Hopeful (m : List ℕ) (fields : ℕ) (p : List ℕ) : Type 0 where
  pub magic : agrees m p ≡ true
  pub most : length_at p ≤ most_length
  pub enough : 8 ≤ length p → fields ≤ length_at p

-- and of a message that is whole
pub record Whole (m : List ℕ) (fields : ℕ) (p : List ℕ) : Type 0 where
  pub hopeful : Hopeful m fields p
  pub head : 8 ≤ length p
  pub all : length_at p ≤ length p
