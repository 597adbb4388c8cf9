-- The cases of `option_at`, each from facts about numbers.
use Rattle.std.specs.Prelude.{ℕ, ◌+◌, ◌-◌, ◌≤◌, ◌<◌, ◌≡◌, List, ◌&&◌, length}
use Rattle.std.proofs.Common.{◌∙◌}
use Rattle.std.proofs.Math.ListN.{get_or}
use Rattle.eno.specs.Area.{Placed, Fault}

-- the option that stands at i with n bytes
abbrev pub placed_at : List ℕ → ℕ → ℕ → Placed
placed_at s i n = record { kind = get_or s i 0; start = i; len = n }

abbrev pub fault_at : List ℕ → ℕ → Fault
fault_at s i = record { place = i; kind = get_or s i 0 }

-- an option that stands at i: one byte of kind 1, or kind, length byte and data within the area
pub data OptionCase (s : List ℕ) (i : ℕ) (x : Placed) (j : ℕ) : Type 0 where
  one_byte : i < length s → get_or s i 0 ≡ 1 → x ≡ placed_at s i 1 → j ≡ i + 1 → OptionCase s i x j
  with_length_lem : (get_or s i 0 ≡ 0 → ⊥) → (get_or s i 0 ≡ 1 → ⊥) → 2 ≤ get_or s (i + 1) 0 → i + get_or s (i + 1) 0 ≤ length s
      → x ≡ placed_at s i (get_or s (i + 1) 0) → j ≡ i + get_or s (i + 1) 0 → OptionCase s i x j

-- where an option ends
pub record OptionEnds (s : List ℕ) (i : ℕ) (x : Placed) (j : ℕ) : Type 0 where
  pub onward : i < j
  pub within : j ≤ length s
  pub starts : x.start ≡ i
  pub ends : x.start + x.len ≡ j
