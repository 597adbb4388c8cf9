-- `init_standing::settle` meets its contract: the fields are tested as they come.
use Rattle.std.proofs.Common.{sym, ◌∙◌, arith}
use Rattle.init_standing.proofs.Standing.{stands_other, stands_above, stands_short, stands_narrow, stands_part_only, stands_whole}
use Rattle.init_standing.proofs.settle.Goals as goal
use Rattle.init_standing.proofs.settle.Goals.{then-not-begins-via-then-not-begins, then-not-begins-via-else-not-begins+then-n-gt-MOST}

pub returns-then-not-begins : goal.returns-then-not-begins
returns-then-not-begins c =
    elim c.then-not-begins.branch [
      | then-not-begins-via-then-not-begins w ↦ stands_other _ _ _ (sym c.begins.ensures ∙ w.if-not-begins.true)
      | then-not-begins-via-else-not-begins+then-n-gt-MOST w ↦ stands_above _ _ _ (sym c.begins.ensures ∙ w.if-not-begins.false) _ c.read_u32-n.ensures (omega arith)
    ]

pub returns-then-s-lt8 : goal.returns-then-s-lt8
returns-then-s-lt8 c = stands_short _ _ _ (sym c.begins.ensures ∙ c.if-not-begins.false) _ c.read_u32-n.ensures (omega arith) (omega arith)

pub returns-then-n-fields : goal.returns-then-n-fields
returns-then-n-fields c = stands_narrow _ _ _ (sym c.begins.ensures ∙ c.if-not-begins.false) _ c.read_u32-n.ensures (omega arith) (omega arith) (omega arith)

pub returns-then-s-n : goal.returns-then-s-n
returns-then-s-n c = stands_part_only _ _ _ (sym c.begins.ensures ∙ c.if-not-begins.false) _ c.read_u32-n.ensures (omega arith) (omega arith) (omega arith) (omega arith)

pub returns : goal.returns
returns c = stands_whole _ _ _ (sym c.begins.ensures ∙ c.if-not-begins.false) _ c.read_u32-n.ensures (omega arith) (omega arith) (omega arith) (omega arith)
