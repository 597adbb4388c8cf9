-- `pieces_init::finish` meets its contract.
use Rattle.pieces_init.specs.InitWays.{finish_two, finish_none, finish_one}
use Rattle.pieces_init.proofs.finish.Goals as goal

pub returns-then-two : goal.returns-then-two
returns-then-two c = let a = c.args in finish_two a.two a.tep a.numbers.now a.gathered.now a.end a.last a.used c.requires _ _ _ c.if-two.true c.in-Some.ensures c.keys_of-keys.ensures.0 c.set_numbers-in-Some.ensures

pub returns-in-None : goal.returns-in-None
returns-in-None c = let a = c.args in finish_none a.two a.tep a.numbers.now a.gathered.now a.end a.last a.used c.requires _ c.in-None.ensures c.set_numbers.ensures

pub returns-else-two : goal.returns-else-two
returns-else-two c = let a = c.args in finish_one a.two a.tep a.numbers.now a.gathered.now a.end a.last a.used c.requires _ _ _ _ c.if-two.false c.in-Some.ensures c.keys_of-keys.ensures.0 c.count_of-count.ensures.0 c.set_numbers-in-Some.ensures
