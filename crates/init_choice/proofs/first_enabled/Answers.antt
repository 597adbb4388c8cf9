-- `init_choice::first_enabled` meets its contract. The loop's invariant: the first i ciphers are not enabled, and the first enabled one is among those left.
use Rattle.std.proofs.Common.{sym, ◌∙◌, arith}
use Rattle.init_choice.proofs.Scanning.{passed_here, passed_next, passed_all, of_init1}
use Rattle.init_choice.proofs.first_enabled.Goals as goal

pub returns-then-is_enabled : goal.returns-then-is_enabled
returns-then-is_enabled c =
    passed_here _ _ _ _ _ c.loop-i.invariant (omega arith) _ c.read_u16-cipher.ensures (sym c.is_enabled.ensures ∙ c.if-is_enabled.true)
    ∙ of_init1 _ _ _ c.count_of-i-end.ensures.0

pub loop-i-preserved : goal.loop-i-preserved
loop-i-preserved c = passed_next _ _ _ _ _ c.loop-i.invariant (omega arith) _ c.read_u16-cipher.ensures (sym c.is_enabled.ensures ∙ c.if-is_enabled.false)

pub returns : goal.returns
returns c = passed_all _ _ _ _ _ c.loop-i.invariant (omega arith) ∙ of_init1 _ _ _ c.count_of-i-end.ensures.0
