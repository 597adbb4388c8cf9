-- `option_writer::put_if_fresh` meets its contract.
use mathlib.Core.Path.{sym, ◌∙◌}
use native.Mathlib.Omega.{arith}
use Rattle.option_layout.specs.FreshLaws.{puts_not_fresh, one_fresh_room, puts_fresh}
use Rattle.option_writer.proofs.put_if_fresh.Goals as goal

pub returns-then-is_in_hand : goal.returns-then-is_in_hand
returns-then-is_in_hand c = puts_not_fresh _ _ _ _ (sym c.is_in_hand.ensures ∙ c.if-is_in_hand.true)

pub overflow_add-result : goal.overflow_add-result
overflow_add-result c =
    omega (arith, one_fresh_room _ c.args.s.now c.args.at _ ((sym c.is_in_hand.ensures ∙ c.if-is_in_hand.false)) c.requires)

pub returns : goal.returns
returns c = puts_fresh _ _ _ _ _ ((sym c.is_in_hand.ensures ∙ c.if-is_in_hand.false)) c.put.ensures
