-- `init_progress::progress2` meets its contract: the cipher is tested before the fields.
use Rattle.std.proofs.Common.{sym, ◌∙◌}
use Rattle.init_layout.specs.Layout.{magic_of}
use Rattle.init_progress.proofs.Progressing.{progress2_void, progress2_settled}
use Rattle.init_progress.proofs.progress2.Goals as goal

pub returns-then-has_void : goal.returns-then-has_void
returns-then-has_void c = progress2_void _ _ (sym c.has_void.ensures ∙ c.if-has_void.true)

pub returns : goal.returns
unfolding magic_of
returns c =
    progress2_settled _ _ (sym c.has_void.ensures ∙ c.if-has_void.false) _ c.keys_of-keys.ensures.0 _ c.settle.ensures
