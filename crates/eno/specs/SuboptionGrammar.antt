-- Reading an option means its grammar: behind kind and length byte, a well-formed option is the concatenation of the encodings
-- of its listed suboptions; and no other list has that encoding.
use Prim.Native.Nat.{ℕ, ◌+◌, ◌-◌, ◌≤◌, ◌<◌}
use Rattle.std.specs.Prelude.{◌≡◌}
use Rattle.std.proofs.Common.{◌∙◌}
use mathlib.Core.List.{List, [], ◌∷◌, ◌++◌}
use Rattle.std.proofs.Math.Bool.{true, false}
use Rattle.std.proofs.Math.ListN.{length, drop}
use Rattle.eno.specs.Option.{Content, global_with, tep_with, encode_all}

-- 00-1f global; a TEP without data 20-7f; a0-ff with data to the end of the option; a0-ff with 1 to 32 data bytes behind a length byte.
-- r is what follows.
pub data MayStand : Content → List ℕ → Type 0 where
  global_suboption : {x : ℕ} {r : List ℕ} → x < 0x20 → MayStand (global_with x) r
  without_data : {x : ℕ} {r : List ℕ} → 0x20 ≤ x → x < 0x80 → MayStand (tep_with false x []) r
  data_to_end : {x : ℕ} {d : List ℕ} → 0xa0 ≤ x → MayStand (tep_with false x d) []
  counted_data : {x : ℕ} {d r : List ℕ} → 0xa0 ≤ x → 1 ≤ length d → length d ≤ 32 → MayStand (tep_with true x d) r

-- each may stand before those that follow it
abbrev pub AreProper : List Content → Type 0
AreProper [] = Unit {0}
AreProper (c ∷ l) = MayStand c (encode_all l) × AreProper l

-- what stands behind kind and length byte of the option o is the encodings of the suboptions l
pub record IsOption (o : List ℕ) (l : List Content) : Type 0 where
  pub proper : AreProper l
  pub bytes : drop 2 o ≡ encode_all l
