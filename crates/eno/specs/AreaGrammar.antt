-- Reading an option area means its grammar: a readable area is the concatenation of the encodings of its listed options,
-- then nothing or an end mark with anything; and no other list has that encoding.
use Prim.Native.Nat.{ℕ, ◌+◌, ◌-◌, ◌≤◌, ◌<◌}
use Rattle.std.specs.Prelude.{◌≡◌, cond, ◌⊎◌, eqb}
use Rattle.std.proofs.Common.{◌∙◌}
use mathlib.Core.List.{List, [], ◌∷◌, ◌++◌}
use Rattle.std.proofs.Math.ListN.{length}
use Rattle.wire.specs.Bytes.{part}
use Rattle.eno.specs.Walk.{Reading, each}
use Rattle.eno.specs.Area.{Placed, Fault, options}

-- an option by its value: the one byte of kind 1, or kind and data
pub data TcpOption : Type 0 where
  no_operation : TcpOption
  with_data : (kind : ℕ) (dat : List ℕ) → TcpOption

-- one_byte kinds; kind, length, data
unfoldable pub encode_option : TcpOption → List ℕ
encode_option no_operation = 1 ∷ []
encode_option (with_data k d) = k ∷ (length d + 2) ∷ d

unfoldable pub encode_options : List TcpOption → List ℕ
unfolding encode_option
encode_options [] = []
encode_options (o ∷ l) = encode_option o ++ encode_options l

-- kinds 0 and 1 have no length byte
abbrev pub IsProper : TcpOption → Type 0
IsProper no_operation = Unit {0}
IsProper (with_data k d) = (k ≡ 0 → ⊥) × (k ≡ 1 → ⊥)

abbrev pub AreProper : List TcpOption → Type 0
AreProper [] = Unit {0}
AreProper (o ∷ l) = IsProper o × AreProper l

-- nothing, or an end mark with anything
abbrev pub EndsArea : List ℕ → Type 0
EndsArea t = (t ≡ []) ⊎ ((rest : List ℕ) × (t ≡ 0 ∷ rest))

-- the area s is the encodings of the options l, and then a tail
pub record IsArea (s : List ℕ) (l : List TcpOption) : Type 0 where
  pub tail : List ℕ
  pub ends : EndsArea tail
  pub proper : AreProper l
  pub bytes : s ≡ encode_options l ++ tail

-- an option of the area s, with its data
unfoldable pub value_of : List ℕ → Placed → TcpOption
unfolding part
value_of s x = cond (eqb x.kind 1) no_operation (with_data x.kind (part (x.start + 2) (x.len - 2) s))

-- the options of an area by their values
unfoldable pub option_values : List ℕ → Reading Fault TcpOption
unfolding value_of options
option_values s = each (value_of s) (options s)
