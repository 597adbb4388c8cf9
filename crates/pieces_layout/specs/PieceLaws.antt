-- What a piece comes to, for any reader: a reader that waits took all of it, an item has at least one byte, a refusal is 8, 10 or 11 and is given again until the reader is started anew. Assumes nothing.
use Rattle.std.specs.Prelude.{ℕ, ◌≤◌, ◌≡◌, ◌∷◌, ◌⊎◌, ◌↔◌}
use Rattle.std.proofs.Common.{◌∙◌}

-- the numbers that a reader of pieces refuses with
abbrev pub Refusal : ℕ → Type 0
Refusal n = (n ≡ 8) ⊎ ((n ≡ 10) ⊎ (n ≡ 11))
