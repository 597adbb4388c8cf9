-- `pieces_cipher::is_own` meets its contract. The loop's invariant: the first ciphers are others, and whether one is the cipher hangs on those left.
use Rattle.std.proofs.Common.{arith}
use Rattle.pieces_cipher.proofs.Own.{looked_start, looked_here, looked_next, looked_all}
use Rattle.pieces_cipher.proofs.is_own.Goals as goal

pub loop-i-init : goal.loop-i-init
loop-i-init c = looked_start _ _ _

pub returns-then-own-cipher : goal.returns-then-own-cipher
returns-then-own-cipher c = looked_here _ _ _ _ c.loop-i.invariant (omega arith) _ c.read_u16-own.ensures c.if-own-cipher.true

pub loop-i-preserved : goal.loop-i-preserved
loop-i-preserved c = looked_next _ _ _ _ c.loop-i.invariant (omega arith) _ c.read_u16-own.ensures c.if-own-cipher.false

pub returns : goal.returns
returns c = looked_all _ _ _ _ c.loop-i.invariant (omega arith)
