-- `sha256_block::round` meets its contract.
use Rattle.sha256_block.proofs.Schedule.{round_made}
use Rattle.sha256_block.proofs.round.Goals as goal

pub returns : goal.returns
returns c =
    let a = c.args in
    round_made a.s a.k a.w c.big1.result c.ch.result c.big0.result c.maj.result c.big1.ensures c.ch.ensures c.big0.ensures c.maj.ensures
