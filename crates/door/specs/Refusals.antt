-- Demand 1 for one door: a refusal changes nothing, and a reply is `refused n` exactly when n is the least number of the table that applies.
use Rattle.std.specs.Prelude.{ℕ, List, ◌↔◌}
use Rattle.std.proofs.Math.Path.{◌≡◌}
use Rattle.std.proofs.Common.{◌∙◌}
use Rattle.std.proofs.Math.Option.{Option, none, some}
use Rattle.door.specs.Outcome.{Reply, refused, written, plain, now_in, encrypted, done, holds, Outcome, keep}
use Rattle.door.specs.declared.Door.{Door}

-- the number of a refusal
abbrev pub refused_by : Reply → Option ℕ
refused_by (refused n) = some n
refused_by (written n) = none
refused_by (plain n) = none
refused_by (now_in p) = none
refused_by (encrypted role byte way n secret) = none
refused_by done = none
refused_by (holds n) = none

-- what a refusal leaves
pub record AsFound (d : Door) (s : List ℕ) (x : Outcome) : Type 0 where
  pub buffer : x.buffer ≡ s
  pub door : x.door ≡ d
  pub effect : x.effect ≡ keep
