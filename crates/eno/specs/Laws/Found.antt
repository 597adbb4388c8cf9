-- What a found option is: it stands within the area and begins with its kind and its own length. The companion says found exactly where the part has bytes.
use Rattle.std.specs.Prelude.{ℕ, ◌+◌, ◌-◌, ◌≤◌, ◌<◌, drop}
use Rattle.std.proofs.Math.Path.{◌≡◌}
use Rattle.std.proofs.Common.{◌∙◌}
use mathlib.Core.List.{List, ◌∷◌}
use Rattle.std.proofs.Math.ListN.{length, get_or}
use Rattle.wire.specs.Bytes.{part}
use Rattle.eno.specs.Area.{Placed, eno_kind}

-- an option lies within s: its kind stands at its start, and after it, unless the kind is 1, its length
pub record Stands (s : List ℕ) (o : Placed) : Type 0 where
  pub kind_there : get_or s o.start 0 ≡ o.kind
  pub length_there : (o.kind ≡ 1 → ⊥) → get_or s (o.start + 1) 0 ≡ o.len
  pub two : (o.kind ≡ 1 → ⊥) → 2 ≤ o.len
  pub within : o.start + o.len ≤ length s

-- an ENO option stands in s from place i on, with n bytes
pub record EnoAt (s : List ℕ) (i n : ℕ) : Type 0 where
  pub kind_there : get_or s i 0 ≡ eno_kind
  pub length_there : get_or s (i + 1) 0 ≡ n
  pub two : 2 ≤ n
  pub within : i + n ≤ length s

-- what the part of a found option is
pub record FoundOption (s : List ℕ) (i n : ℕ) : Type 0 where
  pub begins : part i n s ≡ 0x45 ∷ n ∷ drop 2 (part i n s)
  pub long : length (part i n s) ≡ n
  pub two : 2 ≤ n
  pub within : i + n ≤ length s
  pub short : length s ≤ 40
