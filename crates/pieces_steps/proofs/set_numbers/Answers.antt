-- `pieces_steps::set_numbers` meets its contract.
use native.Mathlib.Omega.{arith}
use Rattle.pieces_steps.specs.NumberLaws.{numbers_few, numbers_four}
use Rattle.pieces_steps.proofs.set_numbers.Goals as goal

pub returns-then-numbers-lt4 : goal.returns-then-numbers-lt4
returns-then-numbers-lt4 c = numbers_few _ _ _ _ _ (omega arith)

pub returns : goal.returns
returns c = numbers_four _ _ _ _ _ (omega arith)
