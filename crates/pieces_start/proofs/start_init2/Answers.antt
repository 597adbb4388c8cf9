-- `pieces_start::start_init2` meets its contract.
use mathlib.Core.Path.{refl}
use native.Mathlib.Omega.{arith}
use Rattle.pieces_start.specs.Starting.{two_unfit, two_many, two_short, two_narrow, two_started}
use Rattle.pieces_start.proofs.start_init2.Goals as goal

pub returns-then-keys-eq0 : goal.returns-then-keys-eq0
returns-then-keys-eq0 c = two_unfit _ _ _ _ _ c.keys_of-keys.ensures.0 c.if-keys-eq0.true

pub returns-then-own-gt255 : goal.returns-then-own-gt255
returns-then-own-gt255 c = two_many _ _ _ _ _ c.keys_of-keys.ensures.0 c.if-keys-eq0.false (omega arith)

pub returns-then-numbers-lt4 : goal.returns-then-numbers-lt4
returns-then-numbers-lt4 c = two_short _ _ _ _ _ c.keys_of-keys.ensures.0 c.if-keys-eq0.false (omega arith) (omega arith)

pub returns-then-gathered-lt-GATHERED : goal.returns-then-gathered-lt-GATHERED
returns-then-gathered-lt-GATHERED c = two_narrow _ _ _ _ _ c.keys_of-keys.ensures.0 c.if-keys-eq0.false (omega arith) (omega arith) (omega arith)

pub returns : goal.returns
returns c = two_started _ _ _ _ _ c.keys_of-keys.ensures.0 c.if-keys-eq0.false (omega arith) (omega arith) (omega arith) _ _ _ _ c.wide-first.ensures refl c.put_ciphers.ensures c.set_numbers.ensures
