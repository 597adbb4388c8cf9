-- `init_standing::begins` meets its contract: the shorter of magic and bytes is looked for at the start of the other.
use mathlib.Core.Path.{◌∙◌}
use native.Mathlib.Omega.{arith}
use Rattle.init_standing.proofs.Standing.{begins_short, begins_long}
use Rattle.init_standing.proofs.begins.Goals as goal

pub returns-then-s-magic : goal.returns-then-s-magic
returns-then-s-magic c = c.stands_at.ensures ∙ begins_short _ _ (omega arith)

pub returns-else-s-magic : goal.returns-else-s-magic
returns-else-s-magic c = c.stands_at-else-s-magic.ensures ∙ begins_long _ _ (omega arith)
