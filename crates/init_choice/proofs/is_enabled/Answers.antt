-- `init_choice::is_enabled` meets its contract: each cipher has its switch.
use Rattle.std.proofs.Common.{arith}
use Rattle.init_choice.proofs.Enabling.{enabled_1, enabled_2, enabled_16, enabled_none}
use Rattle.init_choice.proofs.is_enabled.Goals as goal

pub returns-in-1 : goal.returns-in-1
returns-in-1 c = enabled_1 _ _ c.in-1.is

pub returns-in-2 : goal.returns-in-2
returns-in-2 c = enabled_2 _ _ c.in-2.is

pub returns-in-16 : goal.returns-in-16
returns-in-16 c = enabled_16 _ _ c.in-16.is

pub returns-in_default : goal.returns-in_default
returns-in_default c = enabled_none _ _ (λ e. omega arith) (λ e. omega arith) (λ e. omega arith)
