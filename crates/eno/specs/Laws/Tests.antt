-- The tests of the judge and of an answer, on what the finder finds and on an option's bits and names. Assumes nothing.
use Rattle.std.specs.Prelude.{ℕ, ◌≤◌, ◌/◌, ◌%◌, ◌≡◌, List, ◌∷◌, Bool, true, false, ◌&&◌, ◌⊎◌}
use Rattle.std.proofs.Common.{◌∙◌}
use Rattle.eno.specs.Area.{Finding, refused, unreadable, missing, found, finding}
use Rattle.eno.specs.Judge.{is_unreadable, is_missing, too_long}

abbrev pub is_refused : Finding → Bool
is_refused refused = true
is_refused (unreadable f) = false
is_refused missing = false
is_refused (found i n) = false

-- an area whose option was found passes the first tests
pub record Found (s : List ℕ) : Type 0 where
  pub not_long : too_long s ≡ false
  pub not_unreadable : is_unreadable (finding s true) ≡ false
  pub not_missing : is_missing (finding s true) ≡ false
