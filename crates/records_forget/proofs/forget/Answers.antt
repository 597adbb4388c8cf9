-- `records_forget::forget` meets its contract.
use mathlib.Core.Path.{sym, ◌∙◌}
use native.Mathlib.Omega.{arith}
use Rattle.door_search.specs.Laws.{first_named}
use Rattle.door.specs.Door.{seen_of}
use Rattle.records.specs.StoreLaws.{is_held_lem, is_not_held}
use Rattle.records.specs.ForgetLaws.{forget_unfit, forget_not_held, forget_removes}
use Rattle.records_forget.proofs.forget.Goals as goal

pub returns-then-not-is_named : goal.returns-then-not-is_named
unfolding seen_of
returns-then-not-is_named c = forget_unfit (seen_of c.args.view) _ _ (sym c.is_named.ensures ∙ c.if-not-is_named.true)

pub returns-then-place-held_count : goal.returns-then-place-held_count
unfolding seen_of
returns-then-place-held_count c =
    let v = seen_of c.args.view in
    forget_removes v _ _ (sym c.is_named.ensures ∙ c.if-not-is_named.false) _ (c.first_sought-place.ensures ∙ first_named _ _ _)
    (is_held_lem _ _ _ (omega (arith, c.if-place-held_count.true, c.held_count.ensures.seen, c.first_sought-place.ensures ∙ first_named _ _ _)))

pub returns-else-place-held_count : goal.returns-else-place-held_count
unfolding seen_of
returns-else-place-held_count c =
    let v = seen_of c.args.view in
    forget_not_held v _ _ (sym c.is_named.ensures ∙ c.if-not-is_named.false)
    (is_not_held _ _ _ (omega (arith, c.if-place-held_count.false, c.held_count.ensures.seen, c.first_sought-place.ensures ∙ first_named _ _ _)))
