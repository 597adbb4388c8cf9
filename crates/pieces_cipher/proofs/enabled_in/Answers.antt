-- `pieces_cipher::enabled_in` meets its contract.
use mathlib.Core.Path.{refl}
use Rattle.pieces_layout.specs.Reader.{enabled_in}
use Rattle.pieces_cipher.proofs.enabled_in.Goals as goal

pub returns : goal.returns
unfolding enabled_in
returns c = refl
