-- `hmac::xored` meets its contract.
use Rattle.std.specs.Prelude.{◌≡◌}
use Rattle.hmac.proofs.Blocks.{xored_to}
use Rattle.hmac.proofs.xored.Given as goal

abbrev pub invariant-loop-y : goal.invariant-loop-y
invariant-loop-y l = l.y-items ≡ xored_to l.x l.y-index l.fn.block
