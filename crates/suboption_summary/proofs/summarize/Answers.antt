-- `summarize` meets its contract: the loop's invariant is `Told`, and each way through the loop is one of its laws.
use Prim.Native.Nat.{◌-◌, ◌%◌}
use mathlib.Core.Path.{sym, ◌∙◌, ap}
use native.Mathlib.Omega.{arith}
use Rattle.suboption.specs.Piece.{piece_of}
use Rattle.suboptions.specs.Summary.{again}
use Rattle.suboptions.proofs.Laws.{summary_beyond}
use Rattle.suboption_summary.proofs.Told.{told_start, told_onward, told_fits, told_global, told_global_again, told_unknown, told_known, told_ill_formed, told_end}
use Rattle.suboption_summary.proofs.summarize.Goals as goal

-- what stands at the place

pub returns-then-option-gt255 : goal.returns-then-option-gt255
returns-then-option-gt255 c = c.ill_formed.ensures ∙ sym (summary_beyond _ (omega arith))

pub loop-teps-init : goal.loop-teps-init
loop-teps-init c = told_start _ _ c.never-teps.ensures (omega arith)

pub suboption_at-p-requires : goal.suboption_at-p-requires
suboption_at-p-requires c = tt

pub returns-in-End : goal.returns-in-End
returns-in-End c = told_end _ c.loop-teps.invariant (sym ((c.suboption_at-p.ensures)) ∙ ap piece_of c.in-End.is)

pub returns-in-IllFormed : goal.returns-in-IllFormed
returns-in-IllFormed c = c.ill_formed-in-IllFormed.ensures ∙ told_ill_formed _ c.loop-teps.invariant (sym ((c.suboption_at-p.ensures)) ∙ ap piece_of c.in-IllFormed.is)

pub loop-teps-preserved-then-first : goal.loop-teps-preserved-then-first
loop-teps-preserved-then-first c = told_global _ c.loop-teps.invariant (sym ((c.suboption_at-p.ensures)) ∙ ap piece_of c.in-Global.is) c.if-first.true

pub loop-teps-preserved-else-first : goal.loop-teps-preserved-else-first
loop-teps-preserved-else-first c = told_global_again _ c.loop-teps.invariant (sym ((c.suboption_at-p.ensures)) ∙ ap piece_of c.in-Global.is) c.if-first.false

pub bounds-teps-k : goal.bounds-teps-k
bounds-teps-k c = omega arith

pub overflow_add-times : goal.overflow_add-times
overflow_add-times c =
    let k = c.loop-teps.invariant in
    let h = told_onward _ k (sym ((c.suboption_at-p.ensures)) ∙ ap piece_of c.in-Tep.is) in
    let b = k.bounded (c.in-Tep.byte % 128 - 0x21) in
    omega (arith, k.short)

pub overflow_cast-from : goal.overflow_cast-from
overflow_cast-from c = let h = told_fits _ c.loop-teps.invariant (sym ((c.suboption_at-p.ensures)) ∙ ap piece_of c.in-Tep.is) in omega arith

pub overflow_cast-size : goal.overflow_cast-size
overflow_cast-size c = let h = told_fits _ c.loop-teps.invariant (sym ((c.suboption_at-p.ensures)) ∙ ap piece_of c.in-Tep.is) in omega arith

pub bounds-teps-k-then-name-le36 : goal.bounds-teps-k-then-name-le36
bounds-teps-k-then-name-le36 c = omega arith

pub loop-teps-preserved-then-name-le36 : goal.loop-teps-preserved-then-name-le36
unfolding again
loop-teps-preserved-then-name-le36 c = told_known _ c.loop-teps.invariant (sym ((c.suboption_at-p.ensures)) ∙ ap piece_of c.in-Tep.is) _ (omega arith) (omega arith)

pub loop-teps-preserved-else-name-le36 : goal.loop-teps-preserved-else-name-le36
loop-teps-preserved-else-name-le36 c = told_unknown _ c.loop-teps.invariant (sym ((c.suboption_at-p.ensures)) ∙ ap piece_of c.in-Tep.is) (λ m h q. omega arith)

pub loop-teps-preserved : goal.loop-teps-preserved
loop-teps-preserved c = told_unknown _ c.loop-teps.invariant (sym ((c.suboption_at-p.ensures)) ∙ ap piece_of c.in-Tep.is) (λ m h q. omega arith)
