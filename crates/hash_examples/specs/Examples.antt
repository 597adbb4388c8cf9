-- FIPS 180-4's message of two blocks and RFC 4231, case 2, by computing.
use Rattle.std.specs.Prelude.{ℕ, ◌≡◌, List, [], ◌∷◌, ◌++◌}

-- RFC 4231, 4.3: key `Jefe`, data `what do ya want for nothing?`
unfoldable pub jefe : List ℕ
jefe = 0x4a ∷ 0x65 ∷ 0x66 ∷ 0x65 ∷ []
