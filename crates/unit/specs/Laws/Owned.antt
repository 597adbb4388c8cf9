-- Rows by their owners, 0 for nobody's and d + 1 for door d's: every row that a door owns is one that it lists, and a row that is nobody's is zeros; what is left so when one row changes hands. Assumes nothing.
use Rattle.std.specs.Prelude.{◌≡◌, ◌≢◌, List, ◌∷◌, ◌++◌, ℕ, suc, ◌≤◌, ◌<◌, get_or}
use Rattle.std.proofs.Common.{◌∙◌}
use Rattle.unit.specs.Laws.Lists.{In}

-- each row that door d owns is listed
abbrev pub Listed : List ℕ → ℕ → List ℕ → Type 0
Listed owners d is = (i : ℕ) → get_or owners i 0 ≡ suc d → In i is
