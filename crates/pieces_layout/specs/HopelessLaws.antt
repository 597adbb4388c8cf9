-- 11 is given at the first byte after which no header avoids it: a header is hopeless exactly when every way to go on ends in 11. Assumes nothing.
use Rattle.std.specs.Prelude.{ℕ, ◌+◌, ◌*◌, ◌≤◌, ◌<◌, ◌≡◌, List, ◌∷◌, ◌++◌, ◌&&◌, ◌||◌, ◌↔◌, length}
use Rattle.std.proofs.Common.{◌∙◌}
use Rattle.wire.specs.Bytes.{Bytes}
use Rattle.frame_layout.specs.Outcome.{refused}
use Rattle.frame_layout.specs.Calls.{read_header, outcome}

-- every way to go on ends in 11
unfoldable pub Eleven : (o : ℕ) → List ℕ → Type 0
Eleven o p = (q : List ℕ) → Bytes q → 3 ≤ length (p ++ q) → (outcome (read_header (p ++ q) o)).reply ≡ refused 11
