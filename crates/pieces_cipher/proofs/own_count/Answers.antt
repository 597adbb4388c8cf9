-- `pieces_cipher::own_count` meets its contract.
use native.Mathlib.Omega.{arith}
use Rattle.pieces_cipher.proofs.Own.{own_many, own_few}
use Rattle.pieces_cipher.proofs.own_count.Goals as goal

pub returns-then-second-gt255 : goal.returns-then-second-gt255
returns-then-second-gt255 c = own_many _ (omega arith)

pub returns : goal.returns
returns c = own_few _ (omega arith)
