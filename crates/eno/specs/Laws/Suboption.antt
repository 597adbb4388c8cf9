-- The cases of `suboption_at`, each from facts about numbers.
use Rattle.std.specs.Prelude.{ℕ, ◌+◌, ◌-◌, ◌≤◌, ◌<◌, ◌≡◌, List, Bool, true, false, ◌&&◌}
use Rattle.std.proofs.Common.{◌∙◌}
use Rattle.std.proofs.Math.ListN.{length, get_or}
use Rattle.eno.specs.Suboption.{Sent, Suboption, global, tep}

abbrev pub sent_as : Bool → ℕ → ℕ → ℕ → Sent
sent_as counted byte start len = record { counted = counted; byte = byte; start = start; len = len }

-- a suboption that stands at i, by its form
pub data SuboptionCase (o : List ℕ) (i : ℕ) (x : Suboption) (j : ℕ) : Type 0 where
  a_global : i < length o → get_or o i 0 < 0x20 → x ≡ global (get_or o i 0) → j ≡ i + 1 → SuboptionCase o i x j
  a_bare : i < length o → 0x20 ≤ get_or o i 0 → get_or o i 0 < 0x80 → x ≡ tep (sent_as false (get_or o i 0) (i + 1) 0) → j ≡ i + 1 → SuboptionCase o i x j
  to_end : i < length o → 0xa0 ≤ get_or o i 0 → x ≡ tep (sent_as false (get_or o i 0) (i + 1) (length o - (i + 1))) → j ≡ length o → SuboptionCase o i x j
  a_counted : (n : ℕ) → 0x80 ≤ get_or o i 0 → get_or o i 0 < 0xa0 → 0xa0 ≤ get_or o (i + 1) 0 → n ≡ get_or o i 0 - 0x80 + 1 → i + 2 + n ≤ length o
      → x ≡ tep (sent_as true (get_or o (i + 1) 0) (i + 2) n) → j ≡ i + 2 + n → SuboptionCase o i x j
