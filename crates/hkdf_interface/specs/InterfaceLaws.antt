-- Laws by which the promise is used: when extract and expand are refused, and what they give otherwise. Assumes nothing.
use Rattle.std.specs.Prelude.{ℕ, List, [], replicate}
use Rattle.std.proofs.Math.ListN.{length}
use Rattle.hkdf_interface.specs.Interface.{Outcome, refused, written}

-- a refusal with its zeros
abbrev pub no_key : Outcome
no_key = record { reply = refused 17; bytes = replicate 32 0; buffer = [] }

-- a buffer of just that length is filled
abbrev pub filled : List ℕ → Outcome
filled d = record { reply = written (length d); bytes = []; buffer = d }
