-- `init_reader::init1_read` meets its contract: each way out is one of the reading's cases.
use Rattle.std.specs.Prelude.{refl}
use Rattle.std.proofs.Common.{◌∙◌, arith}
use Rattle.std.proofs.lemmas.Result.{err_from_is_err_and}
use Rattle.init_reader.proofs.Receiving.{read1_unfit, read1_not_whole, read1_room, read1_uncommon, read1_taken}
use Rattle.init_reader.proofs.init1_read.Goals as goal

pub returns-then-keys-eq0 : goal.returns-then-keys-eq0
returns-then-keys-eq0 c = read1_unfit _ _ _ _ c.keys_of-keys.ensures.0 (omega arith)

pub returns-in_err-n : goal.returns-in_err-n
returns-in_err-n c =
    let p = err_from_is_err_and c.from_residual.result c.from_residual.ensures.1 in
    rw (p.1, p.2) (read1_not_whole _ _ _ _ c.keys_of-keys.ensures.0 c.if-keys-eq0.false _ c.in_err-n.ensures)

pub returns-in_default : goal.returns-in_default
returns-in_default c = read1_uncommon _ _ _ _ c.keys_of-keys.ensures.0 c.if-keys-eq0.false _ c.in_ok-n.ensures _ c.in_default.ensures refl

pub taken-requires : goal.taken-requires
taken-requires c =
    (read1_room _ c.args.enabled _ _ c.keys_of-keys.ensures.0 c.if-keys-eq0.false _ c.in_ok-n.ensures _ c.count_of-count.ensures.0, c.keys_of-keys.ensures.1)

pub returns : goal.returns
returns c =
    c.taken.ensures
    ∙ read1_taken _ _ _ _ c.keys_of-keys.ensures.0 c.if-keys-eq0.false _ c.in_ok-n.ensures _ c.in-Some.ensures _ c.count_of-count.ensures.0 _ refl
