-- Demand 1 for generations: a refusal leaves the record as found, and a reply is `refused n` exactly when n is the least number that applies. Assumes nothing.
use Rattle.std.specs.Prelude.{ℕ}
use Rattle.std.proofs.Math.Option.{Option, none, some}
use Rattle.generation.specs.Steps.{Reply, refused, sent, received}

-- the number of a refusal
abbrev pub refused_by : Reply → Option ℕ
refused_by (refused n) = some n
refused_by (sent generation rekey) = none
refused_by (received generation) = none
