-- `init_voids::has_void` meets its contract. The loop's invariant: the first i ciphers are not 0000, and whether one is hangs on those left.
use Rattle.std.proofs.Common.{◌+◌, ◌≤◌, length, arith}
use Rattle.init_voids.proofs.Voids.{looked_start, looked_past, looked_here, looked_next, looked_all}
use Rattle.init_voids.proofs.has_void.Goals as goal
use Rattle.init_voids.proofs.has_void.Goals.{then-s-lt2-via-then-s-lt2, then-s-lt2-via-else-s-lt2+then-s-next}

pub loop-init : goal.loop-init
loop-init c = looked_start _ _ _

pub returns-then-s-lt2 : goal.returns-then-s-lt2
returns-then-s-lt2 c =
    elim c.then-s-lt2.branch [
      | then-s-lt2-via-then-s-lt2 w ↦ looked_past _ _ _ _ _ c.loop.invariant (omega arith)
      | then-s-lt2-via-else-s-lt2+then-s-next w ↦ looked_past _ _ _ _ _ c.loop.invariant (omega arith)
    ]

pub returns-then-read_u16-eq0 : goal.returns-then-read_u16-eq0
returns-then-read_u16-eq0 c = looked_here _ _ _ _ _ c.loop.invariant (omega arith) (omega arith) _ c.read_u16.ensures (omega arith)

pub loop-preserved : goal.loop-preserved
loop-preserved c = looked_next _ _ _ _ _ c.loop.invariant (omega arith) (omega arith) _ c.read_u16.ensures c.if-read_u16-eq0.false

pub returns : goal.returns
returns c = looked_all _ _ _ _ _ c.loop.invariant (omega arith)
