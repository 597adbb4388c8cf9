-- `option_writer::finish` meets its contract.
use mathlib.Core.Path.{refl}
use native.Mathlib.Omega.{arith}
use Rattle.option_layout.specs.WholeLaws.{bytes_over, bytes_written}
use Rattle.option_writer.proofs.finish.Goals as goal

pub returns-then-out-n : goal.returns-then-out-n
returns-then-out-n c = let a = c.args in bytes_over a.out.now a.contents.now _ refl (omega arith)

pub returns : goal.returns
returns c =
    let a = c.args in
    bytes_written a.out.now a.contents.now _ refl (omega arith) _ _ _ c.put.ensures c.put-2.ensures c.copy.ensures
