-- The TEPs that the unit knows, and the lengths that belong to each.
use Rattle.std.specs.Prelude.{ℕ, Bool, true, false, cond, ◌&&◌, leb, eqb, Option, Some, None}
use Rattle.eno.specs.declared.Tep.{Tep}
use Rattle.eno.specs.declared.Tep.TheVariants as tep

-- 21 (P256), 22 (P521), 23 (Curve25519), 24 (Curve448)
unfoldable pub is_known : ℕ → Bool
is_known t = leb 0x21 t && leb t 0x24

-- public key 32 for 23, 56 for 24; Init for 21 and 22 stays with the host
unfoldable pub key_length : ℕ → ℕ
key_length t = cond (eqb t 0x23) 32 (cond (eqb t 0x24) 56 0)

abbrev pub name_of : Tep → ℕ
name_of tep.P256 = 0x21
name_of tep.P521 = 0x22
name_of tep.Curve25519 = 0x23
name_of tep.Curve448 = 0x24

-- the TEP with this name, if the unit knows one
unfoldable pub tep_of : ℕ → Option Tep
tep_of t =
    cond (eqb t 0x21) (Some tep.P256)
    (cond (eqb t 0x22) (Some tep.P521)
    (cond (eqb t 0x23) (Some tep.Curve25519)
    (cond (eqb t 0x24) (Some tep.Curve448)
    None)))
