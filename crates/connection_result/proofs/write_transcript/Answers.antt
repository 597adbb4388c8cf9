-- `connection_result::write_transcript` meets its contract.
use Rattle.connection_result.proofs.Outcomes.{both_written}
use Rattle.connection_result.proofs.write_transcript.Goals as goal

pub returns : goal.returns
returns c = both_written _ _ _ _ c.requires _ _ _ _ c.host_a_option-a.ensures.0 c.host_b_option-b.ensures.0 c.copy.ensures c.copy-2.ensures
