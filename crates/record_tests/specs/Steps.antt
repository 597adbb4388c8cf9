-- What names a session.
use Rattle.std.specs.Prelude.{ℕ, List, Bool, ◌&&◌, eqb, length}
use Rattle.eno.specs.Tep.{is_known}

-- a known TEP and an identifier of 18 bytes
unfoldable pub is_named : ℕ → List ℕ → Bool
is_named t identifier = is_known t && eqb (length identifier) 18
