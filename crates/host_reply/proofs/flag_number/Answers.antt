-- `host_reply::flag_number` meets its contract.
use mathlib.Core.Path.{sym, ap}
use Rattle.host_reply.specs.Numbers.{flag_number}
use Rattle.host_reply.proofs.flag_number.Goals as goal

pub returns-then-flag : goal.returns-then-flag
returns-then-flag c = ap flag_number (sym c.if-flag.true)

pub returns-else-flag : goal.returns-else-flag
returns-else-flag c = ap flag_number (sym c.if-flag.false)
