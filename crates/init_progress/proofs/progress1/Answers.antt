-- `init_progress::progress1` meets its contract: the list of ciphers is tested before the fields.
use Rattle.std.proofs.Common.{sym, ◌∙◌, arith}
use Rattle.init_layout.specs.Layout.{magic_of}
use Rattle.init_progress.proofs.Progressing.{progress1_empty, progress1_void, progress1_settled}
use Rattle.init_progress.proofs.progress1.Goals as goal
use Rattle.init_progress.proofs.progress1.Goals.{then-count-eq0-via-then-count-eq0, then-count-eq0-via-else-count-eq0+then-has_void}

pub returns-then-count-eq0 : goal.returns-then-count-eq0
returns-then-count-eq0 c =
    elim c.then-count-eq0.branch [
      | then-count-eq0-via-then-count-eq0 w ↦ progress1_empty _ _ _ c.count_of-count.ensures.0 (omega arith)
      | then-count-eq0-via-else-count-eq0+then-has_void w ↦ progress1_void _ _ _ c.count_of-count.ensures.0 (sym w.has_void.ensures ∙ w.if-has_void.true)
    ]

pub returns : goal.returns
unfolding magic_of
returns c =
    progress1_settled _ _ _ c.count_of-count.ensures.0 c.if-count-eq0.false
    (sym c.has_void.ensures ∙ c.if-has_void.false) _ c.keys_of-keys.ensures.0 _ c.settle.ensures
