-- `pieces_void::settled` meets its contract.
use Prim.Native.Nat.{◌+◌}
use mathlib.Core.Path.{ap}
use native.Mathlib.Nat.{sub-zero}
use native.Mathlib.Omega.{arith}
use lib.ListN.{take}
use Rattle.pieces_steps.specs.Kinds.{kind_of}
use Rattle.pieces_void.specs.Settling.{head_all, head_part, first_half_lem, second_half_lem}
use Rattle.pieces_void.proofs.settled.Goals as goal

pub returns-then-gathered-end : goal.returns-then-gathered-end
returns-then-gathered-end c = let a = c.args in head_all (kind_of a.two) _ a.gathered.now a.n _ c.ciphers_from-from.ensures.0 (omega arith) (omega arith) _ c.refuses.ensures

pub returns-then-n-from : goal.returns-then-n-from
returns-then-n-from c = let a = c.args in head_part (kind_of a.two) _ a.gathered.now a.n _ c.ciphers_from-from.ensures.0 (omega arith) _ _ (ap (λ k. take k a.gathered.now) (sub-zero (a.n + 1))) c.refuses-then-n-from.ensures

pub returns-then-place-ne1 : goal.returns-then-place-ne1
returns-then-place-ne1 c = let a = c.args in first_half_lem (kind_of a.two) _ a.gathered.now a.n _ c.ciphers_from-from.ensures.0 (omega arith) c.if-place-ne1.true

pub returns : goal.returns
returns c = let a = c.args in second_half_lem (kind_of a.two) _ a.gathered.now a.n _ c.ciphers_from-from.ensures.0 (omega arith) (omega arith) _ c.read_u16-cipher.ensures
