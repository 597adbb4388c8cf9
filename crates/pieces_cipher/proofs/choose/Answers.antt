-- `pieces_cipher::choose` meets its contract.
use Rattle.pieces_cipher.proofs.Own.{two_is, two_taken, two_none, one_taken}
use Rattle.pieces_cipher.proofs.choose.Goals as goal

pub returns-then-is_own : goal.returns-then-is_own
returns-then-is_own c =
    let a = c.args in
    two_is a.two a.second a.gathered.now _ c.if-two.true
    (two_taken a.second a.gathered.now _ _ c.read_u16-cipher.ensures c.own_count-count.ensures.0 _ c.is_own.ensures c.if-is_own.true)

pub returns-then-two : goal.returns-then-two
returns-then-two c =
    let a = c.args in
    two_is a.two a.second a.gathered.now _ c.if-two.true
    (two_none a.second a.gathered.now _ _ c.read_u16-cipher.ensures c.own_count-count.ensures.0 _ c.is_own.ensures c.if-is_own.false)

pub returns : goal.returns
returns c =
    let a = c.args in
    one_taken a.two a.second a.gathered.now _ _ c.enabled_in-enabled.ensures c.first_enabled.ensures c.if-two.false
