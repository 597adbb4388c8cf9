-- `records::count` meets its contract.
use Rattle.door.specs.Door.{seen_of}
use Rattle.records.specs.ForgetLaws.{count_holds}
use Rattle.records.proofs.count.Goals as goal

pub returns : goal.returns
unfolding seen_of
returns c = count_holds (seen_of c.args.view) _ c.held_count.ensures.seen
