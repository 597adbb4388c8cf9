-- `locate` meets its contract: the loop's invariant is `Seen`, and each way through the loop is one of its laws. The measure is what is left of the area.
use Prim.Native.Nat.{◌-◌}
use mathlib.Core.Path.{sym, ◌∙◌, ap}
use native.Mathlib.Omega.{arith}
use Rattle.eno.specs.Walk.{fault}
use Rattle.area_walk.specs.Answers.{piece_of}
use Rattle.area_walk.proofs.Locating.{too_long, seen_start, seen_onward, seen_other, seen_first, seen_again, seen_fault, over_none, over_one, over_two_syn, over_two_other}
use Rattle.area_walk.proofs.locate.Goals as goal

-- what stands at the place: an option, a fault, nothing more

pub returns-then-area-gt40 : goal.returns-then-area-gt40
returns-then-area-gt40 c = record { right = too_long _ _ (omega arith); within = tt }

pub loop-kind-init : goal.loop-kind-init
loop-kind-init c = seen_start _ _ (omega arith)

pub option_at-p-requires : goal.option_at-p-requires
option_at-p-requires c = tt

pub overflow_cast-at : goal.overflow_cast-at
overflow_cast-at c = let v = c.loop-kind.invariant in omega (arith, v.short, v.at_most)

pub returns-in-Fault : goal.returns-in-Fault
returns-in-Fault c = record { right = seen_fault _ _ c.loop-kind.invariant ((sym c.option_at-p.ensures ∙ ap (piece_of _) c.in-Fault.is)); within = tt }

pub loop-kind-preserved-then-seen-eq0 : goal.loop-kind-preserved-then-seen-eq0
loop-kind-preserved-then-seen-eq0 c = seen_first _ _ c.loop-kind.invariant ((sym c.option_at-p.ensures ∙ ap (piece_of _) c.in-Item.is)) (omega arith) (omega arith)

pub loop-kind-preserved-else-seen-eq0 : goal.loop-kind-preserved-else-seen-eq0
loop-kind-preserved-else-seen-eq0 c = seen_again _ _ c.loop-kind.invariant ((sym c.option_at-p.ensures ∙ ap (piece_of _) c.in-Item.is)) (omega arith) (omega arith)

pub loop-kind-preserved : goal.loop-kind-preserved
loop-kind-preserved c = seen_other _ _ c.loop-kind.invariant ((sym c.option_at-p.ensures ∙ ap (piece_of _) c.in-Item.is)) (omega arith)

pub returns-then-seen-eq0-2 : goal.returns-then-seen-eq0-2
returns-then-seen-eq0-2 c = record { right = over_none _ _ c.loop-kind.invariant ((sym c.option_at-p.ensures ∙ ap (piece_of _) c.in-End.is)) (omega arith); within = tt }

pub returns-then-syn : goal.returns-then-syn
returns-then-syn c =
    let v = c.loop-kind.invariant in
    record { right = over_two_syn _ _ v ((sym c.option_at-p.ensures ∙ ap (piece_of _) c.in-End.is)) (omega arith) c.if-syn.true; within = tt }

pub returns-else-syn : goal.returns-else-syn
returns-else-syn c =
    let v = c.loop-kind.invariant in
    record { right = over_two_other _ _ v ((sym c.option_at-p.ensures ∙ ap (piece_of _) c.in-End.is)) (omega arith) c.if-syn.false; within = v.within }

pub returns-else-seen-eq2 : goal.returns-else-seen-eq2
returns-else-seen-eq2 c =
    let v = c.loop-kind.invariant in
    record { right = over_one _ _ v ((sym c.option_at-p.ensures ∙ ap (piece_of _) c.in-End.is)) (omega arith) (omega arith); within = v.within }
