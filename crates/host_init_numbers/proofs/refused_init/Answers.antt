-- `host_init_numbers::refused_init` meets its contract: zeros stand beside a refusal.
use Rattle.std.specs.Prelude.{refl}
use Rattle.init_layout.specs.Reading.{zeros}
use Rattle.host_init_numbers.proofs.refused_init.Goals as goal

pub returns : goal.returns
unfolding zeros
returns c = refl
