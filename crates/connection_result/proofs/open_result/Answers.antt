-- `connection_result::open_result` meets its contract.
use Rattle.door_data.specs.Laws.{own_taken, peer_taken}
use Rattle.connection_result.proofs.Outcomes.{open_short, open_told}
use Rattle.connection_result.proofs.open_result.Goals as goal

pub returns-then-out-length : goal.returns-then-out-length
returns-then-out-length c =
    record {
      told = (open_short _ _ c.requires _ _ (own_taken _ _ c.kept_length.ensures.0) (peer_taken _ _ c.kept_length-2.ensures.0) c.if-out-length.true).0;
      secret = (open_short _ _ c.requires _ _ (own_taken _ _ c.kept_length.ensures.0) (peer_taken _ _ c.kept_length-2.ensures.0) c.if-out-length.true).1;
    }

pub returns : goal.returns
returns c =
    record {
      told = (open_told _ _ c.requires _ _ (own_taken _ _ c.kept_length.ensures.0) (peer_taken _ _ c.kept_length-2.ensures.0) c.if-out-length.false _ c.write_transcript.ensures _ c.secret_of.ensures).0;
      secret = (open_told _ _ c.requires _ _ (own_taken _ _ c.kept_length.ensures.0) (peer_taken _ _ c.kept_length-2.ensures.0) c.if-out-length.false _ c.write_transcript.ensures _ c.secret_of.ensures).1;
    }
