-- `init_steps::keys_of` meets its contract: the length is that of the TEP type.
use native.Mathlib.Omega.{arith}
use Rattle.init_layout.proofs.Refusals.{keys_few}
use Rattle.init_steps.proofs.keys_of.Goals as goal

pub returns : goal.returns
returns c = (c.key_length_of.ensures, omega (arith, keys_few c.args.tep))
