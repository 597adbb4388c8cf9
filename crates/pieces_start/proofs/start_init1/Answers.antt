-- `pieces_start::start_init1` meets its contract.
use native.Mathlib.Omega.{arith}
use Rattle.pieces_start.specs.Starting.{one_unfit, one_short, one_started}
use Rattle.pieces_start.proofs.start_init1.Goals as goal

pub returns-then-keys-eq0 : goal.returns-then-keys-eq0
returns-then-keys-eq0 c = one_unfit _ _ _ _ c.keys_of-keys.ensures.0 c.if-keys-eq0.true

pub returns-then-numbers-lt4 : goal.returns-then-numbers-lt4
returns-then-numbers-lt4 c = one_short _ _ _ _ c.keys_of-keys.ensures.0 c.if-keys-eq0.false (omega arith)

pub returns : goal.returns
returns c = one_started _ _ _ _ c.keys_of-keys.ensures.0 c.if-keys-eq0.false (omega arith) _ _ _ c.wide-first.ensures c.bits_of-bits.ensures c.set_numbers.ensures
