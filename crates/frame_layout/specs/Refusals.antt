-- Demand 1 for frames: a refusal leaves the lent buffer as found, and a reply is `refused n` exactly when n is the least number that applies. Assumes nothing.
use Rattle.std.specs.Prelude.{ℕ}
use Rattle.std.proofs.Math.Option.{Option, none, some}
use Rattle.frame_layout.specs.Outcome.{Reply, refused, begins, header, made, written, plaintext}

-- the number of a refusal
abbrev pub refused_by : Reply → Option ℕ
refused_by (refused n) = some n
refused_by (begins o) = none
refused_by (header rekey clen after) = none
refused_by made = none
refused_by (written n) = none
refused_by (plaintext fin urg urgent at) = none
