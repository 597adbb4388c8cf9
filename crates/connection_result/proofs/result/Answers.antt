-- `connection_result::result` meets its contract.
use mathlib.Core.Path.{◌≡◌}
use Rattle.door.specs.declared.Phase.TheVariants as phase
use Rattle.connection_result.proofs.Outcomes.{is_open_lem, plain_told, out_told}
use Rattle.connection_result.proofs.result.Goals as goal

pub open_result-requires : goal.open_result-requires
open_result-requires c =
    let is_open : c.phase_of.result ≡ phase.Open = cc in
    is_open_lem c.args.door c.phase_of.result c.phase_of.ensures is_open

pub returns-in-Plain : goal.returns-in-Plain
returns-in-Plain c =
    record {
      told = (plain_told _ _ _ c.phase_of.ensures c.in-Plain.is).0;
      secret = (plain_told _ _ _ c.phase_of.ensures c.in-Plain.is).1;
    }

pub returns-in_default : goal.returns-in_default
returns-in_default c =
    record {
      told = (out_told _ _ _ c.phase_of.ensures c.in_default.not-Open c.in_default.not-Plain).0;
      secret = (out_told _ _ _ c.phase_of.ensures c.in_default.not-Open c.in_default.not-Plain).1;
    }
