-- Void ciphers among the bytes at hand: with fewer bytes, with ones behind them, and of a whole list. Assumes nothing.
use Rattle.std.specs.Prelude.{ℕ, ◌+◌, ◌*◌, ◌-◌, ◌≤◌, ◌<◌, ◌≡◌, List, ◌∷◌, ◌++◌, ◌&&◌, ◌||◌, replicate}
use Rattle.std.proofs.Common.{◌∙◌}

-- ones that follow: a missing count is 1, a cipher of which a byte is missing is none that is 0000
unfoldable pub ones : ℕ → List ℕ
ones n = replicate n 1
