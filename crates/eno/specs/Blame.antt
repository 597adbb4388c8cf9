-- The option that makes an area unreadable: behind whole options, a kind whose length byte is absent, below 2 or too long. Its kind byte stands at its place.
use Prim.Native.Nat.{ℕ, ◌+◌, ◌-◌, ◌≤◌, ◌<◌}
use Rattle.std.proofs.Math.Path.{◌≡◌}
use Rattle.std.proofs.Common.{◌∙◌}
use mathlib.Core.List.{List, ◌∷◌, ◌++◌}
use Rattle.std.specs.Prelude.{◌⊎◌, length, get_or}
use Rattle.std.proofs.Math.ListN.{drop}
use Rattle.eno.specs.Area.{Fault}
use Rattle.eno.specs.AreaGrammar.{TcpOption, encode_options, AreProper}

-- its length byte is wrong; one that is absent reads as 0
abbrev pub Wrong : List ℕ → ℕ → Type 0
Wrong s i = (get_or s (i + 1) 0 < 2) ⊎ (length s < i + get_or s (i + 1) 0)

pub record Blamed (s : List ℕ) (f : Fault) : Type 0 where
  pub within : f.place < length s
  pub kind_there : get_or s f.place 0 ≡ f.kind
  pub has_length : 1 < f.kind
  pub wrong : Wrong s f.place
  -- what stands before it are whole options
  pub whole : List TcpOption
  pub proper : AreProper whole
  pub bytes : s ≡ encode_options whole ++ drop f.place s
