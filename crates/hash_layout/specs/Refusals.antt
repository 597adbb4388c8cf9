-- Demand 1 for hashes: a refusal leaves the lent buffer as found, and a reply is `refused n` exactly when n is the least number that applies. Assumes nothing.
use Prim.Native.Nat.{ℕ}
use Rattle.std.proofs.Math.Option.{Option, none, some}
use Rattle.hash_layout.specs.Outcome.{Reply, refused, made, written}

-- the number of a refusal
abbrev pub refused_by : Reply → Option ℕ
refused_by (refused n) = some n
refused_by made = none
refused_by (written n) = none
