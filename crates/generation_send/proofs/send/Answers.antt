-- `generation_send::send` meets its contract.
use native.Mathlib.Omega.{arith}
use Rattle.generation_send.proofs.Ways.{send_finished, send_goes}
use Rattle.generation_send.proofs.send.Goals as goal

pub returns-then-g : goal.returns-then-g
returns-then-g c = send_finished _ (omega (arith, c.well_formed.0.1.1.0.1)) _ c.if-g.true

pub returns : goal.returns
returns c = send_goes _ (omega (arith, c.well_formed.0.1.1.0.1)) _ c.if-g.false c.send_one.result c.send_one.ensures
